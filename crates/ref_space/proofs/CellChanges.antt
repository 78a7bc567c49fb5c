-- What a call answers and leaves that changes the cell of one object, where it is found and where there is none.
use Rattle.ref_space.specs.Tables.{RoundView}
use Rattle.ref_space.specs.Places.{IsReadIn}
use Rattle.ref_space.proofs.Common.{◌≡◌, ℕ, ◌<◌, Bool, true, false, refl, sym, ◌∙◌, ap, arith, List, length, get_or}
use Rattle.ref_space.proofs.Common.{set, Option, Some, None, length-set, option_map, IsSoundTable, change_of}
use Rattle.ref_space.proofs.Common.{tabled_linked, table_look, table_looked_at, ClearIn, Change, Tabled, Table}
use Rattle.ref_space.proofs.Common.{tabled_at, tabled_by, place_in, place_if_live, seen_table, changed, Entry}
use Rattle.ref_space.proofs.Common.{changed_tabled, marked_of, is_unmarked_in, table_freed, from_bool, ◌+◌, ◌^◌, ◌≤◌}
use Rattle.ref_space.proofs.Common.{◌-◌, ◌/◌, ◌%◌}
use Rattle.ref_space.specs.Tables.{is_unmarked_at, look_by, more_held_if}
use Rattle.ref_space.specs.declared.linked.Linked.{Linked}
use Rattle.ref_space.specs.declared.linked.Look.{Look}
use Rattle.ref_base.specs.DoomedSets.{refers_into}
use Rattle.ref_space.proofs.PlaceLemmas.{IsPlaceOf, IsMissing}
use Rattle.ref_space.proofs.ChangeLemmas.{told_of, seen_changed, placed_changed, tabled_by-changed, one_there}
use Rattle.ref_space.proofs.ChangeLemmas.{page_there, length-freed, length-changed_tabled, placed_freed}
use Rattle.ref_space.proofs.ChangeLemmas.{tabled_by-freed, naming_changed, changed_tabled-none}
use Rattle.ref_space.proofs.ChangeLemmas.{missing_at as none_there}
use Rattle.ref_space.proofs.NamingLemmas.{Keeps, good_anywhere, each_anyhow}
use Rattle.ref_space.proofs.WordLemmas.{IsGood, word_is_good}
use Rattle.ref_space.specs.ColouredWords.{IsCell}
use Rattle.ref_space.proofs.TableLemmas.{has_word, word_place}
use Rattle.ref_space.specs.Naming.{IsHealed, IsInColour, IsWordHeld}
use Rattle.ref_space.proofs.HealLemmas.{word_held}
use Rattle.ref_space.specs.Tables.{is_healed, is_healed_in}
use Rattle.ref_space.proofs.NamingLemmas.{tabled_at-named, tabled_if-named, each_set, each_at, each_held}
use Rattle.ref_space.proofs.Common.{field_in_cell, reference_by_number, referent_of, subst, tabled_reference}
use Rattle.std.specs.Option.{IfSome}
use Rattle.ref_space.proofs.Common.{is_some}
use Rattle.ref_space.specs.Tables.{without_object}
use Rattle.ref_space.proofs.Common.{IsUnnamed}
use Rattle.ref_space.proofs.ChangeLemmas.{seen_freed, naming_freed}
use Rattle.ref_space.proofs.ChangeLemmas.{found_where_there, number_there, there}
use Rattle.ref_space.proofs.Common.{Reference}
use Rattle.ref_space.proofs.Common.{tabled_fields}
use Rattle.ref_space.proofs.Common.{field_held, if◌then◌else◌, cases_Bool, inl, inr}
use Rattle.std.proofs.Math.ListN.{get_or-map}
use Rattle.ref_space.proofs.Common.{cell_of_word, changed_if, changed_of, target_of, occupant_in, place_by}
use Rattle.ref_space.proofs.Common.{place_of_word}
use Rattle.ref_space.proofs.Common.{tabled_if, tabled_of}
use Rattle.ref_space.proofs.PlaceLemmas.{LeadsTo, leads_to, leads_nowhere, led_tabled, named-cell, lies_there}
use Rattle.ref_space.proofs.PlaceLemmas.{IsPlaceOf-lent}
use Rattle.ref_space.specs.Tables.{LieOnce, LiesAt, anew_in}
use Rattle.ref_space.specs.Moves.{AreFree}
use Rattle.ref_space.proofs.Common.{eqb-true}
use Rattle.ref_space.proofs.Common.{cell_at}
use Rattle.ref_space.proofs.Common.{by_number, Each, IsSoundNaming, leads_by, target_by, occupants_of, values_in}
use Rattle.ref_space.proofs.Common.{has_field}
use Rattle.ref_space.proofs.Common.{is_marked_in, holds_in, may_hold, nat_lt, length-map, on_object, with_field, map}
use Rattle.std.proofs.lemmas.List.{map-set, set-get_or}
use Rattle.ref_base.specs.Heaps.{changed_reference, with_reference}
use Rattle.ref_space.specs.Naming.{with_referent}
use Rattle.ref_space.proofs.Common.{slice_index_or, ◌∷◌, []}
use Rattle.ref_space.proofs.MarkCounts.{marks_same, marks_changed, marks_without, from_bool-le, length-unmarked_of}
use Rattle.ref_space.proofs.Common.{Pages}
use Rattle.ref_space.specs.Naming.{bits_told}
use Rattle.ref_space.specs.ColouredWords.{word_of_place}
use Rattle.ref_space.proofs.HealLemmas.{AreAddressed}
use Rattle.ref_space.proofs.Common.{◌*◌}
use Rattle.ref_space.specs.Pages.{with_given}
use Rattle.ref_space.proofs.FreeLemmas.{length-free, none-occupants}
use Rattle.ref_space.proofs.Common.{false≢true, is_none}
use Rattle.ref_space.proofs.CallLemmas.{between_at}
use Rattle.ref_space.proofs.FreeLemmas.{length-free, none-occupants}
use Rattle.ref_space.specs.Naming.{HasTarget}
use Rattle.ref_space.proofs.Common.{occupant_at}
use Rattle.ref_space.specs.Moves.{Ways}
use Rattle.ref_space.proofs.FrameLemmas.{framed_there}
use Rattle.ref_space.proofs.ChangeLemmas.{given_pages, given_packed, given_size}
use Rattle.ref_space.specs.Pages.{Pages, opened, place_of}
use Rattle.std.proofs.Common.{if◌then◌else◌}
use Rattle.ref_space.proofs.NamingLemmas.{good_word}
use Rattle.ref_space.specs.Pages.{is_chosen_place, page_at, use_of}
use Rattle.ref_space.specs.Places.{moved_place}
use Rattle.ref_space.specs.ColouredWords.{has_colour}
use Rattle.ref_space.specs.Naming.{leads_from}
use Rattle.ref_space.proofs.FreeLemmas.{settled-none}
use Rattle.ref_space.proofs.PlaceUses.{chosen_within}
use Rattle.ref_space.proofs.WayLemmas.{old_place}
use Rattle.ref_space.proofs.HealLemmas.{some_within, from_led}
use Rattle.ref_space.proofs.PlaceLemmas.{taken-way}
use Rattle.ref_space.specs.Naming.{IsSettled, healed_word, word_there}
use Rattle.ref_space.specs.declared.colour.Colour.{Colour}
use Rattle.ref_space.proofs.ChangeLemmas.{seen_changed_at}
use Rattle.ref_space.specs.Naming.{with_referent_healed, IsHeldIn}
use Rattle.ref_space.specs.Places.{with_fields_by, with_fields_healed}
use Rattle.ref_space.proofs.HealCells.{at_own, own_read, fields_alike, map_alike, place_same, read_at, referent_stays}
use Rattle.ref_space.proofs.HealCells.{set_twice, some_fields}
use Rattle.std.proofs.lemmas.List.{with_items_is}
use Rattle.ref_space.proofs.HealLemmas.{healed_good}
use Rattle.ref_space.proofs.ReadLemmas.{IsReadGood, read_led, field_is}
use Rattle.ref_space.proofs.HealLemmas.{told_good}
use Rattle.ref_space.proofs.Common.{at_place}
use Rattle.std.proofs.lemmas.Option.{none-some}
use Rattle.ref_space.proofs.PlaceLemmas.{tabled_at-place}
use Rattle.ref_space.specs.ColouredWords.{are_in_colour}
use Rattle.ref_space.specs.Tables.{IfRead}
use Rattle.ref_space.specs.declared.word_name.WordName.{WordName}
use Rattle.ref_space.specs.ColouredWords.{is_in_colour}
use Rattle.ref_space.specs.Tables.{word_in, word_name}
use Rattle.ref_space.proofs.HealLemmas.{healed_by, heal_leads, heal-named, none_is_chosen, object-recoloured}
use Rattle.ref_space.specs.Tables.{table_healed, with_healed}
use Rattle.ref_space.proofs.ChangeLemmas.{found_at}
use Rattle.ref_space.proofs.PlaceLemmas.{is_of-some}
use Rattle.ref_space.specs.ColouredWords.{recoloured}
use Rattle.ref_space.proofs.EachLemmas.{items_mapped}
use Rattle.std.proofs.Common.{Vec}
use Rattle.std.specs.Prelude.{Vec}
use Rattle.std.specs.Vec.{with_items}
use Rattle.ref_space.proofs.NamingLemmas.{unmoved_word}
use Rattle.ref_space.specs.Naming.{way_of}
use Rattle.ref_space.proofs.WayLemmas.{there_way}
use Rattle.ref_space.specs.Naming.{taken_way}
use Rattle.ref_space.proofs.WayLemmas.{taken_some}
use Rattle.ref_space.proofs.WayLemmas.{taken_none}
use Rattle.ref_space.specs.Pages.{has_chosen}
use Rattle.ref_space.proofs.MoveLemmas.{some_chosen}

-- ---- what is written of an object

pub change_keeps : (change : Change) (k : Tabled) → (change_of change k).object.no ≡ k.object.no
change_keeps change k = grind arith

pub change_leaves : (change : Change) (k : Tabled) → (change_of change k).marked_in ≡ k.marked_in
change_leaves change k = grind arith

-- the object of a number has it
number_of : (ks : List Tabled) (n : ℕ) (k : Tabled) → tabled_at ks n ≡ Some k → k.object.no ≡ n
number_of [] n k at = absurd (none-some k at)
number_of (l ∷ ls) n k at = grind (arith, number_of ls n k)

-- ---- the count of the marked

-- one more can be counted
pub marks_fit : {round : RoundView} {cells : List (Option Tabled)} {es : List Entry} {ways : Ways}
    {last room count index_room marked : ℕ} → IsSoundTable round cells es ways last room count index_room marked
    → (b : Bool) {more : ℕ} → more ≡ from_bool b → marked + more < 2 ^ 64
marks_fit {round} {cells} {es} sound b one =
    omega (
      arith,
      length-unmarked_of round.number (tabled_by cells es),
      from_bool-le b,
      one,
      sound.marks_counted,
      sound.counted,
      sound.within,
      sound.cells_fit,
      sound.placed.small,
    )

-- ---- what a name doesn't change of an object

pub unmarked-named : (r : ℕ) (name : Option ℕ → Option ℕ) (c : Option Tabled)
    → is_unmarked_in r (option_map (by_number name) c) ≡ is_unmarked_in r c
unmarked-named r name None = refl
unmarked-named r name (Some k) = refl

-- the number of one that isn't marked
pub anew-named : (r : ℕ) (name : Option ℕ → Option ℕ) (c : Option Tabled)
    → anew_in r (option_map (by_number name) c) ≡ anew_in r c
anew-named r name None = refl
anew-named r name (Some k) = refl

pub some_anew : (r : ℕ) (c : Option Tabled) → is_some (anew_in r c) ≡ is_unmarked_in r c
some_anew r None = refl
some_anew r (Some k) = grind arith

pub anew_at : (r : ℕ) (ks : List Tabled) (n : ℕ)
    → anew_in r (tabled_at ks n) ≡ (if is_unmarked_in r (tabled_at ks n) then Some n else None)
anew_at r [] n = refl
anew_at r (k ∷ ks) n = grind (arith, eqb-true, anew_at r ks n)

pub some-named : (name : Option ℕ → Option ℕ) (c : Option Tabled)
    → is_some (option_map (by_number name) c) ≡ is_some c
some-named name None = refl
some-named name (Some k) = refl

pub marked-named : (r : ℕ) (name : Option ℕ → Option ℕ) (c : Option Tabled)
    → is_marked_in r (option_map (by_number name) c) ≡ is_marked_in r c
marked-named r name None = refl
marked-named r name (Some k) = refl

pub holds-named : (name : Option ℕ → Option ℕ) (c : Option Tabled)
    → holds_in (option_map (by_number name) c) ≡ holds_in c
holds-named name None = refl
holds-named name (Some k) = refl

pub may_hold-named : (r : ℕ) (if_marked : Bool) (name : Option ℕ → Option ℕ) (c : Option Tabled)
    → may_hold r if_marked (option_map (by_number name) c) ≡ may_hold r if_marked c
may_hold-named r if_marked name None = refl
may_hold-named r if_marked name (Some k) = refl

pub has_field-named : (i : ℕ) (name : Option ℕ → Option ℕ) (c : Option Tabled)
    → has_field (option_map (by_number name) c) i ≡ has_field c i
has_field-named i name None = refl
has_field-named i name (Some k) = ap (nat_lt i) (length-map k.object.fields name)

pub field-named_in : (name : Option ℕ → Option ℕ) → name None ≡ None → (c : Option Tabled) (i : ℕ)
    → option_map name (field_in_cell c i) ≡ field_in_cell (option_map (by_number name) c) i
field-named_in name null None i = refl
field-named_in name null (Some k) i = grind (arith, length-map, get_or-map name k.object.fields i None)

pub reference-named : (name : Option ℕ → Option ℕ) (c : Option Tabled)
    → option_map (reference_by_number name) (tabled_reference c) ≡ tabled_reference (option_map (by_number name) c)
reference-named name None = refl
reference-named name (Some k) = refl

pub some_reference : (name : Option ℕ → Option ℕ) (c : Option Tabled)
    → is_some (tabled_reference (option_map (by_number name) c)) ≡ is_some (tabled_reference c)
some_reference name None = refl
some_reference name (Some k) = by k.object.reference
  where
    by : (r : Option Reference) → is_some (option_map (reference_by_number name) r) ≡ is_some r
    by None = refl
    by (Some r) = refl

-- what holds of each value that a cell has, and of null, holds of what its fields and its referent are
pub field_of_each : (p : Option ℕ → Bool) → p None ≡ true → (c : Option Tabled) (i : ℕ)
    → ((k : Tabled) → c ≡ Some k → Each p (values_in k)) → IfSome (field_in_cell c i) (λ v. p v ≡ true)
field_of_each p null None i each = tt
field_of_each p null (Some k) i each =
    let own = each k refl in grind (arith, each_at p k.object.fields i)

pub referent_of_each : (p : Option ℕ → Bool) → p None ≡ true → (c : Option Tabled)
    → ((k : Tabled) → c ≡ Some k → Each p (values_in k)) → p (referent_of (tabled_reference c)) ≡ true
referent_of_each p null None each = null
referent_of_each p null (Some k) each = let own = each k refl in own.0

pub held-in_cell : (name : Option ℕ → Option ℕ) → name None ≡ None → (c : Option Tabled) (i : ℕ)
    → name (field_held c i) ≡ field_held (option_map (by_number name) c) i
held-in_cell name null None i = null
held-in_cell name null (Some k) i = grind (arith, get_or-map name k.object.fields i None)

pub field_count-named : (name : Option ℕ → Option ℕ) (c : Option Tabled)
    → length (tabled_fields (option_map (by_number name) c)) ≡ length (tabled_fields c)
field_count-named name None = refl
field_count-named name (Some k) = length-map k.object.fields name

pub fields-named : (name : Option ℕ → Option ℕ) (c : Option Tabled)
    → map name (tabled_fields c) ≡ tabled_fields (option_map (by_number name) c)
fields-named name None = refl
fields-named name (Some k) = refl

-- ---- what a change of an object is by number, and that it leaves each word leading to an object

pub change-named : (name : Option ℕ → Option ℕ) → name None ≡ None → (change : Change) (k : Tabled)
    → by_number name (change_of change k) ≡ change_of change (by_number name k)
change-named name null change k = grind arith

pub change_leads : (r : ℕ) (p : Bool → Option ℕ → Bool) → ((b : Bool) → p b None ≡ true) → (change : Change)
    → Keeps r p (change_of change)
change_leads r p null change k each = grind (arith, null (is_healed r k))

pub field-named : (name : Option ℕ → Option ℕ) (i : ℕ) (value : Option ℕ) (k : Tabled)
    → by_number name (on_object (with_field i value) k) ≡ on_object (with_field i (name value)) (by_number name k)
field-named name i value k = grind (arith, map-set)

pub field_leads : (r : ℕ) (p : Bool → Option ℕ → Bool) (i : ℕ) (value : Option ℕ) → ((b : Bool) → p b value ≡ true)
    → Keeps r p (on_object (with_field i value))
field_leads r p i value is k held = (
  held.0,
  held.1,
  (held.2.0, each_set (p (is_healed r k)) k.object.fields i value (is (is_healed r k)) held.2.1),
)

pub referent-named : (name : Option ℕ → Option ℕ) (value : Option ℕ) (k : Tabled)
    → by_number name (on_object (with_reference (with_referent value)) k)
    ≡ on_object (with_reference (with_referent (name value))) (by_number name k)
referent-named name value k =
    ap (λ r. on_object (λ o. record o { reference = r }) (by_number name k)) (same k.object.reference)
  where
    same : (r : Option Reference)
        → option_map (reference_by_number name) (changed_reference (with_referent value) r)
        ≡ changed_reference (with_referent (name value)) (option_map (reference_by_number name) r)
    same None = refl
    same (Some r) = refl

pub referent_leads : (q : ℕ) (p : Bool → Option ℕ → Bool) (value : Option ℕ) → ((b : Bool) → p b value ≡ true)
    → Keeps q p (on_object (with_reference (with_referent value)))
referent_leads q p value is k held = (held.0, held.1, (own k.object.reference held.2.0, held.2.1))
  where
    own : (r : Option Reference) → p (is_healed q k) (referent_of r) ≡ true
        → p (is_healed q k) (referent_of (changed_reference (with_referent value) r)) ≡ true
    own None leads = leads
    own (Some r) leads = is (is_healed q k)

-- ---- what is written again as it was

tabled_same : (f : Tabled → Tabled) (ks : List Tabled) (n : ℕ)
    → ((k : Tabled) → tabled_at ks n ≡ Some k → f k ≡ k) → changed_tabled ks n f ≡ ks
tabled_same f [] n same = refl
tabled_same f (k ∷ ks) n same = grind (arith, same, tabled_same f ks n)

changed_same : (t : Table) (v : Option ℕ) (f : Tabled → Tabled) → ((k : Tabled) → tabled_of t v ≡ Some k → f k ≡ k)
    → changed_of t v f ≡ t
changed_same t v f same = by (target_of t v) same
  where
    by : (n : Option ℕ) → ((k : Tabled) → tabled_if t.tabled n ≡ Some k → f k ≡ k) → changed_if t n f ≡ t
    by None same = refl
    by (Some n) same = ap (λ ks. record t { tabled = ks }) (tabled_same f t.tabled n same)

pub field_again : (t : Table) (v : Option ℕ) (i : ℕ) (n : Option ℕ) → Some n ≡ field_in_cell (tabled_of t v) i
    → changed_of t v (on_object (with_field i n)) ≡ t
field_again t v i n is =
    changed_same t v (on_object (with_field i n))
    (λ k at. own k (is ∙ ap (λ c. field_in_cell c i) at))
  where
    own : (k : Tabled) → Some n ≡ field_in_cell (Some k) i → on_object (with_field i n) k ≡ k
    own k is =
        let held : n ≡ slice_index_or k.object.fields i None = grind (arith) in
        ap (λ vs. on_object (λ o. record o { fields = vs }) k)
        (ap (set k.object.fields i) held ∙ set-get_or k.object.fields i None)

pub referent_again : (t : Table) (v n : Option ℕ) → n ≡ referent_of (tabled_reference (tabled_of t v))
    → changed_of t v (on_object (with_reference (with_referent n))) ≡ t
referent_again t v n is =
    changed_same t v (on_object (with_reference (with_referent n)))
    (λ k at. own k (is ∙ ap (λ c. referent_of (tabled_reference c)) at))
  where
    own : (k : Tabled) → n ≡ referent_of k.object.reference → on_object (with_reference (with_referent n)) k ≡ k
    own k is = ap (λ r. on_object (λ o. record o { reference = r }) k) (same k.object.reference is)
      where
        same : (r : Option Reference) → n ≡ referent_of r → changed_reference (with_referent n) r ≡ r
        same None is = refl
        same (Some r) is = ap (λ m. Some (record r { referent = m })) is

pub held-named : (r : ℕ) (name : Option ℕ → Option ℕ) (if_marked : Bool) (k : Tabled)
    → by_number name (more_held_if r if_marked k) ≡ more_held_if r if_marked (by_number name k)
held-named r name if_marked k = grind arith

pub held_values : (r : ℕ) (p : Bool → Option ℕ → Bool) (if_marked : Bool) → Keeps r p (more_held_if r if_marked)
held_values r p if_marked k each = grind arith

-- the fields of a cell's object and its referent, each healed, make it healed
pub healed_cell : (heal : Option ℕ → Option ℕ) (n : ℕ) (c : Option Tabled)
    → option_map (with_referent_healed (heal (referent_of (tabled_reference c))) n) (option_map (with_fields_by heal) c)
    ≡ option_map (healed_by heal n) c
healed_cell heal n None = refl
healed_cell heal n (Some k) = ap Some (by k.object.reference refl)
  where
    by : (r : Option Reference) → k.object.reference ≡ r
        → with_referent_healed (heal (referent_of k.object.reference)) n (with_fields_by heal k) ≡ healed_by heal n k
    by None is = grind arith
    by (Some r) is = grind arith

-- ---- the cell of an object

module _ {round : RoundView} {cells : List (Option Tabled)} {es : List Entry} {ways : Ways} {slots : List
    (Option ℕ)}
    {last room count index_room marked : ℕ}
    (sound : IsSoundTable round cells es ways last room count index_room marked × IsSoundNaming round ways cells es
    slots) where
  abbrev name : Option ℕ → Option ℕ
  name = target_by ways (occupants_of cells)

  abbrev leads : Bool → Option ℕ → Bool
  leads = leads_by round.good ways (occupants_of cells)

  -- a contract sees the same round
  pub round_seen : {t : Table} → seen_table round ways cells es slots last room ≡ t → t.round.number ≡ round.number
  round_seen view = ap (λ (s : Table). s.round.number) (sym view)

  -- what lies at a place has that place
  module _ {t : Table} (view : seen_table round ways cells es slots last room ≡ t) {n p : ℕ} where
    pub lying_place : LiesAt t n p → IsPlaceOf cells es n p
    lying_place lies =
        lies_there sound.1.listed n p (cell_at cells p) refl
        (sym (get_or-map occupant_in cells p None)
        ∙ ap (λ (s : Table). slice_index_or s.occupants p None) view ∙ lies)

    pub lies_in : IsPlaceOf cells es n p → LiesAt t n p
    lies_in place =
        ap (λ (s : Table). slice_index_or s.occupants p None) (sym view) ∙ get_or-map occupant_in cells p None
        ∙ number_there sound.0.placed place

  -- where a search finds a place, the object lies there
  pub found_lies : {t : Table} → seen_table round ways cells es slots last room ≡ t → (n : ℕ) (place : Option ℕ)
      → {borrowed : List (Option Tabled)} {lent : List Entry} → borrowed ≡ cells → lent ≡ es
      → place ≡ place_if_live borrowed (place_in lent n) n → IfSome place (LiesAt t n)
  found_lies view n None same_cells same_index is = tt
  found_lies view n (Some p) same_cells same_index is = lies_in view (IsPlaceOf-lent n same_cells same_index is)

  -- a number's place
  module _ {n p : ℕ} (place : IsPlaceOf cells es n p) where
    pub one_fewer : 1 ≤ count
    one_fewer = omega (arith, sound.0.counted, one_there sound.0.placed place)

    pub has_page : p / 64 < length ways.pages.uses
    has_page = page_there sound.0.placed place

    -- an object lies there
    pub lies_seen : {t : Table} → seen_table round ways cells es slots last room ≡ t
        → slice_index_or t.occupants p None ≡ Some n
    lies_seen view =
        ap (λ (s : Table). slice_index_or s.occupants p None) (sym view) ∙ get_or-map occupant_in cells p None
        ∙ number_there sound.0.placed place

    there_seen : {t : Table} → seen_table round ways cells es slots last room ≡ t
        → is_some (tabled_at t.tabled n) ≡ true
    there_seen view =
        ap (λ (s : Table). is_some (tabled_at s.tabled n)) (sym view)
        ∙ ap is_some (tabled_at-named name (tabled_by cells es) n)
        ∙ some-named name (tabled_at (tabled_by cells es) n) ∙ sym (there sound.0.placed place)

    pub named_if_there : {t : Table} → seen_table round ways cells es slots last room ≡ t
        → Some n ≡ (if is_some (tabled_at t.tabled n) then Some n else None)
    named_if_there view = simp (there_seen view) refl

    -- the object is looked at
    module _ {t : Table} (view : seen_table round ways cells es slots last room ≡ t) {cell also : Option Tabled}
        (was : cell ≡ get_or cells p cell) (same : also ≡ get_or cells p also) {l : Linked}
        (told : l ≡ tabled_linked n (option_map (by_number (target_of t)) cell)) {r : Option Reference}
        (kept : r ≡ tabled_reference also) {b : Bool}
        (is : b ≡ refers_into (is_unmarked_at t.round.number t.tabled) (option_map (reference_by_number
        (target_of t)) r)) where
      object_here : {c : Option Tabled} → c ≡ get_or cells p c
          → option_map (by_number (target_of t)) c ≡ tabled_at t.tabled n
      object_here {c} reads =
          ap (λ (s : Table). option_map (by_number (target_by s.ways s.occupants)) c) (sym view)
          ∙ told_of sound.0.placed place (option_map (by_number name)) reads
          ∙ sym (tabled_at-named name (tabled_by cells es) n) ∙ ap (λ (s : Table). tabled_at s.tabled n) view

      pub look_told : (let look : Look = record { was = l; is_cleared = b } in look) ≡ table_look t n
      look_told =
          λ i. record {
            was = (told ∙ ap (tabled_linked n) (object_here was)) i;
            is_cleared = (is
                ∙ ap (λ o. refers_into (is_unmarked_at t.round.number t.tabled) (option_map (reference_by_number
                (target_of t)) o))
                kept
                ∙ ap (refers_into (is_unmarked_at t.round.number t.tabled))
                (reference-named (target_of t) also ∙ ap tabled_reference (object_here same))) i;
          }

      pub cleared_there : (cycle : ℕ) → b ≡ true → {old new : Option Tabled} → old ≡ get_or cells p old
          → new ≡ option_map (change_of (ClearIn cycle)) old
          → seen_table round ways (set cells p new) es slots last room ≡ table_looked_at t n cycle
      cleared_there cycle clears {old} {new} found change =
          seen_changed sound.0.placed place (change_of (ClearIn cycle)) (change_keeps (ClearIn cycle)) found change
          round slots room (change_of (ClearIn cycle)) (change-named name refl (ClearIn cycle))
          ∙ ap (λ (s : Table). changed s n (change_of (ClearIn cycle))) view
          ∙ simp (sym (ap (λ (i : Look). i.is_cleared) look_told) ∙ clears) refl

      pub uncleared_there : (cycle : ℕ) → b ≡ false → t ≡ table_looked_at t n cycle
      uncleared_there cycle spares = simp (sym (ap (λ (i : Look). i.is_cleared) look_told) ∙ spares) refl

    -- the object goes, and its place is free, where it isn't marked
    module _ {t : Table} (view : seen_table round ways cells es slots last room ≡ t) {cell : Option Tabled}
        (was : cell ≡ get_or cells p cell) {goes : Bool} (is : goes ≡ is_unmarked_in round.number cell) where
      pub goes_answer : goes ≡ is_unmarked_in t.round.number (tabled_at t.tabled n)
      goes_answer =
          is ∙ told_of sound.0.placed place (is_unmarked_in round.number) was
          ∙ sym (unmarked-named round.number name (tabled_at (tabled_by cells es) n))
          ∙ ap (is_unmarked_in round.number) (sym (tabled_at-named name (tabled_by cells es) n))
          ∙ ap (λ (s : Table). is_unmarked_in s.round.number (tabled_at s.tabled n)) view

      pub kept_there : goes ≡ false → t ≡ table_freed t n
      kept_there stays = let kept = sym goes_answer ∙ stays in simp kept refl

      module _ (leaves : goes ≡ true) {new : Option Tabled} (gone : new ≡ None) {fewer : Pages}
          (less : fewer ≡ with_given ways.pages (p / 64) (p % 64)) (tuned_now : t.ways.tuned ≡ true)
          (unnamed : is_unmarked_in t.round.number (tabled_at t.tabled n) ≡ true → IsUnnamed t n) where
        is_tuned : ways.tuned ≡ true
        is_tuned = ap (λ (s : Table). s.ways.tuned) view ∙ tuned_now

        nobody : IsUnnamed (seen_table round ways cells es slots last room) n
        nobody = subst (λ (s : Table). IsUnnamed s n) (sym view) (unnamed (sym goes_answer ∙ leaves))

        pub freed_there : seen_table round (record ways { pages = fewer })
            (set cells p new) es slots last room ≡ table_freed t n
        freed_there =
            seen_freed sound.0.placed place gone less is_tuned sound.1 nobody.slots nobody.objects room
            ∙ ap (λ (s : Table). without_object s n) view
            ∙ (let goes = sym goes_answer ∙ leaves in simp goes refl)

        -- and the marked are as many as before
        pub sound_freed : IsSoundTable round (set cells p new) es (record ways { pages = fewer }) last room
            (count - 1) index_room marked
            × IsSoundNaming round (record ways { pages = fewer }) (set cells p new) es slots
        sound_freed =
            let placed = placed_freed sound.0.placed place gone less is_tuned in
            let gone_one = length-freed sound.0.placed place gone less is_tuned in
            let marks = marks_same round.number (tabled_by-freed sound.0.placed place gone less is_tuned)
            (marks_without round.number (tabled_by cells es) n
            (sym leaves ∙ is ∙ told_of sound.0.placed place (is_unmarked_in round.number) was) sound.0.marks_counted) in
            let open_fit : room ≤ 64 * length (opened fewer.uses) =
            (let size = given_pages sound.0.placed place gone less is_tuned in omega (arith, size, sound.0.open_fit)) in
            let twice : length fewer.uses ≡ 2 * ((room + 63) / 64) =
            given_size sound.0.placed place gone less is_tuned ∙ sound.0.twice in
            let packed = given_packed sound.0.placed place gone less is_tuned ((room + 63) / 64) sound.0.packed in (
              grind (arith, length-set, open_fit, twice, packed),
              naming_freed sound.0.placed place gone less is_tuned
                  sound.1 nobody.slots nobody.objects,
            )

    -- what is answered of the cell there is answered of the object
    pub named_there : {t : Table} → seen_table round ways cells es slots last room ≡ t
        → {X : Type 0} (f : Option Tabled → X)
        {cell : Option Tabled} {x : X} → cell ≡ get_or cells p cell → x ≡ f (option_map (by_number name) cell)
        → x ≡ f (tabled_at t.tabled n)
    named_there view f was is =
        is ∙ told_of sound.0.placed place (λ c. f (option_map (by_number name) c)) was
        ∙ ap f (sym (tabled_at-named name (tabled_by cells es) n)) ∙ ap (λ (s : Table). f (tabled_at s.tabled n)) view

    pub answered_there : {t : Table} → seen_table round ways cells es slots last room ≡ t → {X : Type 0}
        (f : Option Tabled → X)
        → ((name : Option ℕ → Option ℕ) (c : Option Tabled) → f (option_map (by_number name) c) ≡ f c)
        → {cell : Option Tabled} {x : X} → cell ≡ get_or cells p cell → x ≡ f cell → x ≡ f (tabled_at t.tabled n)
    answered_there view f blind {cell} was is = named_there view f was (is ∙ sym (blind name cell))

    module _ (f h : Tabled → Tabled) (keeps : (k : Tabled) → (f k).object.no ≡ k.object.no) {old new : Option Tabled}
        (was : old ≡ get_or cells p old) (is : new ≡ option_map f old) where
      pub left_there : {t : Table} → seen_table round ways cells es slots last room ≡ t
          → ((k : Tabled) → by_number name (f k) ≡ h (by_number name k))
          → seen_table round ways (set cells p new) es slots last room ≡ changed t n h
      left_there view same =
          seen_changed sound.0.placed place f keeps was is round slots room h same
          ∙ ap (λ (s : Table). changed s n h) view

      pub left_there_at : {t : Table} → seen_table round ways cells es slots last room ≡ t
          → ((k : Tabled) → tabled_at (tabled_by cells es) n ≡ Some k → by_number name (f k) ≡ h (by_number name k))
          → seen_table round ways (set cells p new) es slots last room ≡ changed t n h
      left_there_at view same =
          seen_changed_at sound.0.placed place f keeps was is round slots room h same
          ∙ ap (λ (s : Table). changed s n h) view

      module _ (holds : Keeps round.number leads f) (reads : (k : Tabled) → IsReadIn round k → IsReadIn round (f k))
        where
          -- the marked are counted anew
          pub sound_counted : {marks : ℕ} → marks ≡ length (marked_of round.number (changed_tabled
              (tabled_by cells es) n f))
              → IsSoundTable round (set cells p new) es ways last room count index_room marks
              × IsSoundNaming round ways (set cells p new) es slots
          sound_counted counted =
              let placed = placed_changed sound.0.placed place f keeps was is in
              let same = tabled_by-changed sound.0.placed place f keeps was is in (
                grind (arith, length-set, length-changed_tabled),
                naming_changed sound.0.placed place f keeps was is round slots sound.1 holds reads,
              )

          -- or stay as many, where the change leaves the mark
          pub sound_there : ((k : Tabled) → (f k).marked_in ≡ k.marked_in)
              → IsSoundTable round (set cells p new) es ways last room count index_room marked
              × IsSoundNaming round ways (set cells p new) es slots
          sound_there leaves =
              sound_counted (marks_changed round.number (tabled_by cells es) n f keeps leaves sound.0.marks_counted)

  -- a number without a place: what is answered of no cell is answered of it, and the table is left as it was
  module _ {n : ℕ} (missing : IsMissing cells es n) where
    module _ {t : Table} (view : seen_table round ways cells es slots last room ≡ t) where
      pub missing_at : tabled_at t.tabled n ≡ None
      missing_at =
          ap (λ (s : Table). tabled_at s.tabled n) (sym view) ∙ tabled_at-named name (tabled_by cells es) n
          ∙ ap (option_map (by_number name)) (none_there sound.0.placed missing)

      pub answered_nowhere : {X : Type 0} (f : Option Tabled → X) → f None ≡ f (tabled_at t.tabled n)
      answered_nowhere f = ap f (sym missing_at)

      pub look_nowhere : (let look : Look = record { was = tabled_linked n None; is_cleared = false } in look)
          ≡ table_look t n
      look_nowhere = answered_nowhere (look_by t.round.number t.tabled n)

      pub uncleared_nowhere : (cycle : ℕ) → t ≡ table_looked_at t n cycle
      uncleared_nowhere cycle = simp (sym (ap (λ (i : Look). i.is_cleared) look_nowhere)) refl

      pub freed_nowhere : t ≡ table_freed t n
      freed_nowhere = simp (sym (answered_nowhere (is_unmarked_in t.round.number))) refl

      pub left_nowhere : (f : Tabled → Tabled) → t ≡ changed t n f
      left_nowhere f = ap (λ ks. record t { tabled = ks }) (sym (changed_tabled-none t.tabled n f missing_at))

  -- ---- a word

  module _ (v : Option ℕ) {t : Table} (view : seen_table round ways cells es slots last room ≡ t) where
    pub named_seen : target_of t v ≡ name v
    named_seen = ap (λ (s : Table). target_of s v) (sym view)

    pub leads_seen : IsHealed t v → (b : Bool) → leads b v ≡ true
    leads_seen is b =
        good_anywhere round.good ways (occupants_of cells) b v
        (ap (λ (s : Table). leads_by s.round.good s.ways s.occupants true v) view ∙ is)

    -- its name is the number of the object in its cell
    pub named_led : target_of t v ≡ occupant_in (cell_of_word cells ways.forwards v)
    named_led = ap (λ (s : Table). target_of s v) (sym view) ∙ named-cell ways cells v

    -- and the object is what its cell holds
    pub tabled_led : tabled_of t v ≡ option_map (by_number name) (cell_of_word cells ways.forwards v)
    tabled_led =
        let ks = tabled_by cells es in
        ap (λ (s : Table). tabled_of s v) (sym view) ∙ tabled_if-named name ks (name v)
        ∙ ap (λ n. option_map (by_number name) (tabled_if ks n)) (named-cell ways cells v)
        ∙ ap (option_map (by_number name)) (led_tabled cells es sound.1.listed sound.0.placed.rises
        (moved_place cells ways.forwards (place_by v)))

    -- so what is answered of the one is answered of the other
    pub answered_led : {X : Type 0} (f : Option Tabled → X)
        → ((name : Option ℕ → Option ℕ) (c : Option Tabled) → f (option_map (by_number name) c) ≡ f c) → {x : X}
        → x ≡ f (cell_of_word cells ways.forwards v) → x ≡ f (tabled_of t v)
    answered_led f blind is = is ∙ sym (blind name (cell_of_word cells ways.forwards v)) ∙ ap f (sym tabled_led)

    module _ {borrowed : List (Option Tabled)} {lent : List ℕ} (same : borrowed ≡ cells)
        (same_forwards : lent ≡ ways.forwards) where
      place_here : place_of_word borrowed lent v ≡ place_of_word cells ways.forwards v
      place_here =
          ap (λ cs. place_of_word cs lent v) same ∙ ap (λ fs. place_of_word cells fs v) same_forwards

      -- it leads to an object
      module _ {p : ℕ} (found : Some p ≡ place_of_word borrowed lent v) where
        pub led : LeadsTo cells es (moved_place cells ways.forwards (place_by v)) p
        led =
            leads_to cells es sound.1.listed (moved_place cells ways.forwards (place_by v)) (found ∙ place_here)

        abbrev pub led_no : ℕ
        led_no = led.k.object.no

        pub led_place : IsPlaceOf cells es led_no p
        led_place = led.own

        pub named_here : target_of t v ≡ Some led_no
        named_here = named_led ∙ led.named

        pub tabled_here : tabled_at t.tabled led_no ≡ tabled_of t v
        tabled_here = sym (ap (tabled_if t.tabled) named_here)

        pub changed_here : (h : Tabled → Tabled) → changed t led_no h ≡ changed_of t v h
        changed_here h = sym (ap (λ n. changed_if t n h) named_here)

      -- or to none
      module _ (found : None ≡ place_of_word borrowed lent v) where
        none_led : cell_of_word cells ways.forwards v ≡ None
        none_led = leads_nowhere cells (moved_place cells ways.forwards (place_by v)) (found ∙ place_here)

        pub named_nowhere : target_of t v ≡ None
        named_nowhere = named_led ∙ ap occupant_in none_led

        pub answered_led_nowhere : {X : Type 0} (f : Option Tabled → X) → f None ≡ f (tabled_of t v)
        answered_led_nowhere f = ap f (sym (tabled_led ∙ ap (option_map (by_number name)) none_led))

        pub left_led_nowhere : (h : Tabled → Tabled) → t ≡ changed_of t v h
        left_led_nowhere h = sym (ap (λ n. changed_if t n h) (named_led ∙ ap occupant_in none_led))

      -- what is read of the cell is read of the object
      module _ {c : Option Tabled} (reads : c ≡ cell_of_word borrowed lent v) where
        read_here : c ≡ cell_of_word cells ways.forwards v
        read_here =
            reads ∙ ap (λ cs. cell_of_word cs lent v) same ∙ ap (λ fs. cell_of_word cells fs v) same_forwards

        pub number_read : occupant_in c ≡ target_of t v
        number_read = ap occupant_in read_here ∙ sym named_led

        pub object_read : option_map (by_number (target_of t)) c ≡ tabled_of t v
        object_read =
            ap (λ (s : Table). option_map (by_number (target_by s.ways s.occupants)) c) (sym view)
            ∙ ap (option_map (by_number name)) read_here ∙ sym tabled_led

        pub blind_read : {X : Type 0} (f : Option Tabled → X)
            → ((name : Option ℕ → Option ℕ) (c : Option Tabled) → f (option_map (by_number name) c) ≡ f c)
            → f c ≡ f (tabled_of t v)
        blind_read f blind = answered_led f blind (ap f read_here)

        -- a word of it that is null or has the good colour may count as read
        pub good_read : (field : Option ℕ) {word : Option WordName} → word ≡ word_name (target_of t v) field
            → ((k : Tabled) → c ≡ Some k → is_in_colour round.good (word_in field k.object) ≡ true)
            → IsReadGood (record round { read = word }) cells
        good_read field {word} is good =
            read_led cells es sound.1.listed (record round { read = word })
            (moved_place cells ways.forwards (place_by v)) field c
            read_here (is ∙ ap (λ o. word_name o field) (sym number_read)) good

        -- and each word that it holds leads to an object
        pub each_read : (k : Tabled) → c ≡ Some k → Each (leads_by t.round.good t.ways t.occupants false) (values_in k)
        each_read k is =
            let at : tabled_at (tabled_by cells es) k.object.no ≡ Some k =
            ap (λ d. tabled_if (tabled_by cells es) (occupant_in d)) (sym is)
            ∙ ap (λ d. tabled_if (tabled_by cells es) (occupant_in d)) read_here
            ∙ led_tabled cells es sound.1.listed sound.0.placed.rises
            (moved_place cells ways.forwards (place_by v)) ∙ sym read_here ∙ is in
            subst (λ (s : Table). Each (leads_by s.round.good s.ways s.occupants false) (values_in k)) view
            (each_anyhow round.good ways (occupants_of cells) (is_healed round.number k) (values_in k)
            (each_held round.number leads (tabled_by cells es) k.object.no k at sound.1.led).2)

        -- so what is read of a field or of the referent does, and to what the object holds there
        pub field_named_read : (i : ℕ) {w : Option ℕ} → Some w ≡ field_in_cell c i
            → option_map (target_of t) (Some w) ≡ field_in_cell (tabled_of t v) i
        field_named_read i held =
            ap (option_map (target_of t)) held ∙ field-named_in (target_of t) refl c i
            ∙ ap (λ k. field_in_cell k i) object_read

        pub field_led_read : (i : ℕ) {w : Option ℕ} → Some w ≡ field_in_cell c i → HasTarget t w
        field_led_read i held =
            subst (λ r. IfSome r (HasTarget t)) (sym held)
            (field_of_each (leads_by t.round.good t.ways t.occupants false) refl c i each_read)

        pub referent_led_read : {w : Option ℕ} → w ≡ referent_of (tabled_reference c) → HasTarget t w
        referent_led_read held =
            subst (HasTarget t) (sym held)
            (referent_of_each (leads_by t.round.good t.ways t.occupants false) refl c each_read)

  -- ---- the word of a place at which an object lies

  module _ {t : Table} (view : seen_table round ways cells es slots last room ≡ t) (p : ℕ)
      (lies : is_some (slice_index_or t.occupants p None) ≡ true) where
    lies_here : is_some (slice_index_or (occupants_of cells) p None) ≡ true
    lies_here = ap (λ (s : Table). is_some (slice_index_or s.occupants p None)) view ∙ lies

    pub within_here : p < length cells
    within_here =
        let own = some_within (occupants_of cells) p lies_here in omega (arith, own, length-map cells occupant_in)

    pub frame_here : p / 64 < length ways.pages.uses
    frame_here = let own = within_here in omega (arith, own, length-free cells sound.0.placed.free)

    has_own : (colour : Colour) → IsCell (1 + p / 64) (p % 64) × IsGood colour (word_of_place colour p)
    has_own colour =
        let at = has_word sound.0.placed.small p within_here in
        (at, word_is_good colour (1 + p / 64) (p % 64) at)

    leads_here : (colour : Colour) → place_by (word_of_place colour p) ≡ Some p
    leads_here colour = word_place colour p (has_own colour).0

    pub word_named : (colour : Colour) → target_of t (word_of_place colour p) ≡ slice_index_or t.occupants p None
    word_named colour =
        ap (λ (s : Table). target_of s (word_of_place colour p)) (sym view)
        ∙ ap (λ o. occupant_at (occupants_of cells) (way_of ways (occupants_of cells) o)) (leads_here colour)
        ∙ ap (λ q. slice_index_or (occupants_of cells) q None) (there_way ways (occupants_of cells) p lies_here)
        ∙ ap (λ (s : Table). slice_index_or s.occupants p None) view

    -- what stays has the good colour, and what is still to move that from before
    pub word_coloured : (colour : Colour) → IsInColour colour (word_of_place colour p)
    word_coloured colour = (has_own colour).1.coloured

    pub word_led : (chosen : Bool) → is_chosen_place ways.pages.uses p ≡ chosen → (colour : Colour)
        → colour ≡ (if chosen then ways.last else round.good) → IsHealed t (word_of_place colour p)
    word_led false stays colour own =
        subst (λ (s : Table). IsHealed s (word_of_place colour p)) view
        (good_word round.good ways (occupants_of cells) p (word_of_place colour p) (leads_here colour)
        (simp (lies_here, stays) refl) (subst (λ d. IsGood d (word_of_place colour p)) own (has_own colour).1))
    word_led true leaves colour own =
        subst (λ (s : Table). IsHealed s (word_of_place colour p)) view
        (unmoved_word round.good ways (occupants_of cells) p (word_of_place colour p) (leads_here colour) leaves
        lies_here (untuned ways.tuned refl)
        (subst (λ d. IsGood d (word_of_place colour p)) own (has_own colour).1))
      where
        untuned : (b : Bool) → ways.tuned ≡ b → ways.tuned ≡ false
        untuned false is = is
        untuned true is =
            absurd (false≢true
            (sym (settled-none cells ways.pages.uses (sound.0.placed.settled is) p leaves) ∙ lies_here))

  -- ---- what is read of the cell of a number

  -- nothing is still to move
  pub settled : ways.tuned ≡ true → IsSettled ways (occupants_of cells)
  settled is_tuned = settled-none cells ways.pages.uses (sound.0.placed.settled is_tuned)

  pub tuned_seen : {t : Table} → seen_table round ways cells es slots last room ≡ t → t.ways.tuned ≡ true
      → ways.tuned ≡ true
  tuned_seen view is = ap (λ (s : Table). s.ways.tuned) view ∙ is

  pub colour_seen : {t : Table} → seen_table round ways cells es slots last room ≡ t → (v : Option ℕ)
      → has_colour round.good v ≡ true → has_colour t.round.good v ≡ true
  colour_seen view v colour = ap (λ (s : Table). has_colour s.round.good v) (sym view) ∙ colour

  pub apart_seen : {t : Table} → seen_table round ways cells es slots last room ≡ t → (good : Colour)
      → (has_chosen t.ways.pages.uses ≡ true → t.ways.last ≡ good → ⊥)
      → (place : ℕ) → is_chosen_place ways.pages.uses place ≡ true → ways.last ≡ good → ⊥
  apart_seen view good apart place chosen same =
      apart
      (ap (λ (s : Table). has_chosen s.ways.pages.uses) (sym view)
      ∙ some_chosen ways.pages.uses (page_at ways.pages.uses place) chosen)
      (ap (λ (s : Table). s.ways.last) (sym view) ∙ same)

  pub few_places : length (occupants_of cells) ≤ 2 ^ 17
  few_places = omega (arith, sound.0.placed.small, length-map cells occupant_in)

  -- the word of where what a word leads to lies
  pub heals : {borrowed : List (Option Tabled)} {lent : List ℕ} → borrowed ≡ cells → lent ≡ ways.forwards
      → (colour : Colour) (v : Option ℕ)
      → word_there colour (place_of_word borrowed lent v) ≡ healed_word colour ways (occupants_of cells) v
  heals {borrowed} {lent} same_cells same_forwards colour v =
      ap (λ cs. word_there colour (place_of_word cs lent v)) same_cells
      ∙ ap (λ fs. word_there colour (place_of_word cells fs v)) same_forwards
      ∙ ap (word_there colour) (sym (taken-way ways cells (place_by v)))

  -- where what a word leads to lies
  module _ {t : Table} (view : seen_table round ways cells es slots last room ≡ t)
      {borrowed : List (Option Tabled)} {lent : List ℕ} (same_cells : borrowed ≡ cells)
      (same_forwards : lent ≡ ways.forwards) (v : Option ℕ) {at : Option ℕ}
      (is : at ≡ place_of_word borrowed lent v) where
    taken_is : taken_way ways (occupants_of cells) (place_by v) ≡ at
    taken_is =
        taken-way ways cells (place_by v) ∙ ap (λ cs. place_of_word cs ways.forwards v) (sym same_cells)
        ∙ ap (λ fs. place_of_word borrowed fs v) (sym same_forwards) ∙ sym is

    pub resolves : {p : ℕ} → at ≡ Some p
        → (is_some (slice_index_or t.occupants p None) ≡ true)
        × (slice_index_or t.occupants p None ≡ target_of t v)
    resolves {p} some =
        let own = taken_some ways (occupants_of cells) (place_by v) (taken_is ∙ some) in (
          ap (λ (s : Table). is_some (slice_index_or s.occupants p None)) (sym view) ∙ own.0,
          ap (λ (s : Table). slice_index_or s.occupants p None) (sym view) ∙ sym own.1
              ∙ ap (λ (s : Table). target_of s v) view,
        )

    pub resolves_none : at ≡ None → target_of t v ≡ None
    resolves_none none =
        ap (λ (s : Table). target_of s v) (sym view)
        ∙ taken_none ways (occupants_of cells) (place_by v) (taken_is ∙ none)

  -- slots that are healed
  pub healed_slots : {borrowed : List (Option Tabled)} {lent : List ℕ} → borrowed ≡ cells → lent ≡ ways.forwards
      → (colour : Colour) {Z : Type 0} (v : Vec (Option ℕ) Z) {was now : List (Option ℕ)} → length v.items ≡ v.len
      → now ≡ map (λ w. word_there colour (place_of_word borrowed lent w)) was → was ≡ v.items
      → (with_items v now).items ≡ map (healed_word colour ways (occupants_of cells)) v.items
  healed_slots {borrowed} {lent} same_cells same_forwards colour v size is same =
      items_mapped (λ w. word_there colour (place_of_word borrowed lent w)) v size is same
      ∙ map_alike (λ w. word_there colour (place_of_word borrowed lent w))
      (healed_word colour ways (occupants_of cells)) (heals same_cells same_forwards colour) v.items

  -- what holds of the object of a number
  pub held_of : (n : ℕ) (k : Tabled) → tabled_at (tabled_by cells es) n ≡ Some k → IsHeldIn round.number leads k
  held_of n k at = each_held round.number leads (tabled_by cells es) n k at sound.1.led

  -- the object in a cell was healed there: first its fields, then its referent
  pub record IsHealedThere (p : ℕ) (colour : Colour) (number : ℕ) (items : List (Option Tabled)) (new : Option Tabled)
      : Type 0 where
    pub whole : set items p new ≡ set cells p new
    pub cell : new ≡ option_map (healed_by (healed_word colour ways (occupants_of cells)) number) (cell_at cells p)

  pub healed_there : {p : ℕ} → p < length cells → (colour : Colour) (number : ℕ) {Z : Type 0}
      (v : Vec (Option Tabled) Z) → length v.items ≡ v.len → v.items ≡ cells → {borrowed now : List (Option Tabled)}
      {lent : List ℕ} → borrowed ≡ cells → lent ≡ ways.forwards → now ≡ with_fields_healed colour lent borrowed p
      → {read again new : Option Tabled} → read ≡ get_or (with_items v now).items p read
      → again ≡ get_or (with_items v now).items p again → {others : List (Option Tabled)} {given : List ℕ}
      → others ≡ (with_items v now).items → given ≡ ways.forwards → {held referent : Option ℕ}
      → held ≡ referent_of (tabled_reference read) → referent ≡ word_there colour (place_of_word others given held)
      → new ≡ option_map (with_referent_healed referent number) again
      → IsHealedThere p colour number (with_items v now).items new
  healed_there {p} within colour number v size own {borrowed} {now} {lent} same_cells same_forwards fields_are {read}
      {again}
      {new} was_read was_again {others} {given} same_others same_given {held} {referent} held_is referent_is is =
      let heal : Option ℕ → Option ℕ = healed_word colour ways (occupants_of cells) in
      let old : Option Tabled = cell_at cells p in
      let half : Option Tabled = option_map (with_fields_by heal) old in
      let told : now ≡ set cells p half =
      fields_are ∙ ap (λ cs. with_fields_healed colour lent cs p) same_cells
      ∙ ap (set cells p) (fields_alike (λ v. word_there colour (place_of_word cells lent v)) heal
      (heals refl same_forwards colour) old) in
      let items : (with_items v now).items ≡ set cells p half =
      with_items_is v now (ap length told ∙ length-set cells p half ∙ ap length (sym own) ∙ size) ∙ told in
      let count : length (with_items v now).items ≡ length cells = ap length items ∙ length-set cells p half in
      let there : cell_at (with_items v now).items p ≡ half =
      ap (λ cs. cell_at cs p) items ∙ at_own cells p half within in
      let first : read ≡ half =
      read_at (with_items v now).items p read (omega (arith, count, within)) was_read ∙ there in
      let second : again ≡ half =
      read_at (with_items v now).items p again (omega (arith, count, within)) was_again ∙ there in
      let own_referent : held ≡ referent_of (tabled_reference old) =
      held_is ∙ ap (λ c. referent_of (tabled_reference c)) first ∙ referent_stays heal old in
      let healed : referent ≡ heal (referent_of (tabled_reference old)) =
      referent_is ∙ ap (λ cs. word_there colour (place_of_word cs given held)) (same_others ∙ items)
      ∙ ap (word_there colour) (place_same cells p half given (some_fields heal old) held)
      ∙ heals refl same_given colour held ∙ ap heal own_referent in
      record {
        whole = ap (λ cs. set cs p new) items ∙ set_twice cells p half new;
        cell = is ∙ ap (λ r. option_map (with_referent_healed r number) again) healed
            ∙ ap (option_map (with_referent_healed (heal (referent_of (tabled_reference old))) number)) second
            ∙ healed_cell heal number old;
      }

  -- or each of its words got the good colour, where no pages are chosen
  pub recoloured_there : {n p : ℕ} → IsPlaceOf cells es n p → has_chosen ways.pages.uses ≡ false
      → {read new : Option Tabled} → read ≡ get_or cells p read
      → new ≡ option_map (healed_by (recoloured round.good) round.number) read
      → new ≡ option_map (healed_by (healed_word round.good ways (occupants_of cells)) round.number) (cell_at cells p)
  recoloured_there {n} {p} place none {read} {new} was is =
      let k = is_of-some (cell_at cells p) n place.own in
      is
      ∙ ap (option_map (healed_by (recoloured round.good) round.number))
      (read_at cells p read place.within was ∙ k.1)
      ∙ ap Some (object-recoloured round.good round.good ways (occupants_of cells) none round.number round.number k.0
      (held_of n k.0 (found_at sound.0.placed place k.0 k.1)))
      ∙ ap (option_map (healed_by (healed_word round.good ways (occupants_of cells)) round.number)) (sym k.1)

  -- so the object there is healed
  module _ {n p : ℕ} (place : IsPlaceOf cells es n p) (nothing_leaves : IsSettled ways (occupants_of cells))
      {new : Option Tabled}
      (healed : new ≡ option_map (healed_by (healed_word round.good ways (occupants_of cells)) round.number)
      (cell_at cells p)) where
    abbrev healing : Tabled → Tabled
    healing = healed_by (healed_word round.good ways (occupants_of cells)) round.number

    pub sound_healed : IsSoundTable round (set cells p new) es ways last room count index_room marked
        × IsSoundNaming round ways (set cells p new) es slots
    sound_healed =
        sound_there place healing (with_healed round.number) (λ k. refl) (own_read cells p place.within) healed
        (heal_leads round.good ways (occupants_of cells) nothing_leaves few_places round.number)
        (λ k is field same. healed_good round.good ways (occupants_of cells) few_places round.number field k)
        (λ k. refl)

    pub seen_healed : {t : Table} → seen_table round ways cells es slots last room ≡ t
        → seen_table round ways (set cells p new) es slots last room ≡ table_healed t n
    seen_healed {t} view =
        left_there_at place healing (with_healed round.number) (λ k. refl) (own_read cells p place.within) healed view
        (λ k at. heal-named round.good ways (occupants_of cells) nothing_leaves few_places round.number k
        (held_of n k at))
        ∙ ap (λ r. changed t n (with_healed r)) (sym (round_seen view))

  pub nothing_left : has_chosen ways.pages.uses ≡ false → IsSettled ways (occupants_of cells)
  nothing_left none p chosen =
      absurd (false≢true (sym (none_is_chosen round.good round.good ways (occupants_of cells) none p) ∙ chosen))

  pub addressed : AreAddressed ways (occupants_of cells)
  addressed = record { address = address; inside = inside }
    where
      address : (frame cell : ℕ) → frame < length ways.pages.uses → cell < 64
          → IsCell (use_of ways.pages.uses frame).address cell
      address frame cell page below =
          let own = framed_there ways.pages.uses sound.0.placed.free.framed frame page in
          let between = between_at ways.pages.uses (place_of ways.pages.uses frame) 1 ways.pages.next
          sound.0.placed.rising own in
          (between.0, omega (arith, between.1, sound.0.placed.addressed), below)

      inside : (is_last : Bool) (q : ℕ) → leads_from ways (occupants_of cells) is_last (Some q) ≡ true
          → q / 64 < length ways.pages.uses
      inside is_last q leads =
          elim (cases_Bool (is_some (slice_index_or (occupants_of cells) q None))) [
            | inl there ↦
                let own = some_within (occupants_of cells) q there in
                omega (arith, own, length-map cells occupant_in, length-free cells sound.0.placed.free)
            | inr gone ↦
                chosen_within ways.pages.uses sound.0.placed.free.framed q
                (old_place ways (occupants_of cells) is_last q leads gone)
          ]

  -- what a word leads to lies in a page
  pub frame_there : {t : Table} → seen_table round ways cells es slots last room ≡ t → (v : Option ℕ) {place : ℕ}
      → HasTarget t v → place_by v ≡ Some place → place / 64 < length ways.pages.uses
  frame_there view v {place} leads at =
      there v at (ap (λ (s : Table). leads_by s.round.good s.ways s.occupants false v) view ∙ leads)
    where
      there : (w : Option ℕ) → place_by w ≡ Some place → leads_by round.good ways (occupants_of cells) false w ≡ true
          → place / 64 < length ways.pages.uses
      there None none led = absurd (cc)
      there (Some w) at led =
          addressed.inside (has_colour ways.last (Some w)) place
          (ap (leads_from ways (occupants_of cells) (has_colour ways.last (Some w))) (sym at)
          ∙ from_led round.good ways (occupants_of cells) false w led)

  held_in : (c : Option Tabled) (i : ℕ) {bits : Option ℕ}
      → bits ≡ option_map (bits_told ways.pages.uses) (field_in_cell c i)
      → ((k : Tabled) → c ≡ Some k → Each (leads (is_healed round.number k)) (values_in k))
      → IfSome bits (IsWordHeld round.good ways (occupants_of cells) (is_healed_in round.number (option_map
      (by_number name) c))
      (field_held (option_map (by_number name) c) i))
  held_in None i own each = rw own tt
  held_in (Some k) i own each =
      rw (own, get_or-map name k.object.fields i None)
      (elim (cases_Bool (nat_lt i (length k.object.fields))) [
        | inl within ↦
            simp within
            (word_held round.good ways (occupants_of cells) (is_healed round.number k)
            (slice_index_or k.object.fields i None)
            (bits_told ways.pages.uses (slice_index_or k.object.fields i None)) addressed refl
            (each_at (leads (is_healed round.number k)) k.object.fields i refl (each k refl).1))
        | inr past ↦ simp past tt
      ])

  held_referent : (c : Option Tabled) {bits : ℕ} → bits ≡ bits_told ways.pages.uses (referent_of (tabled_reference c))
      → ((k : Tabled) → c ≡ Some k → Each (leads (is_healed round.number k)) (values_in k))
      → IsWordHeld round.good ways (occupants_of cells) (is_healed_in round.number (option_map (by_number name) c))
      (referent_of (tabled_reference (option_map (by_number name) c))) bits
  held_referent None own each = own
  held_referent (Some k) own each = rw own (by k.object.reference refl)
    where
      by : (r : Option Reference) → k.object.reference ≡ r
          → IsWordHeld round.good ways (occupants_of cells) (is_healed round.number k)
          (referent_of (option_map (reference_by_number name) r)) (bits_told ways.pages.uses (referent_of r))
      by None is = refl
      by (Some r) is =
          word_held round.good ways (occupants_of cells) (is_healed round.number k) r.referent
          (bits_told ways.pages.uses r.referent) addressed refl
          (subst (λ (s : Option Reference). leads (is_healed round.number k) (referent_of s) ≡ true) is (each k refl).0)

  some_bits : (c : Option Tabled) (i : ℕ) {bits : Option ℕ}
      → bits ≡ option_map (bits_told ways.pages.uses) (field_in_cell c i) → is_some bits ≡ has_field c i
  some_bits None i own = rw own refl
  some_bits (Some k) i own =
      rw own
      (elim (cases_Bool (nat_lt i (length k.object.fields))) [
        | inl within ↦ simp within refl
        | inr past ↦ simp past refl
      ])

  module _ (n : ℕ) {t : Table} (view : seen_table round ways cells es slots last room
      ≡ t) {borrowed : List (Option Tabled)}
      {lent : List Entry} (same_cells : borrowed ≡ cells) (same_index : lent ≡ es) {c : Option Tabled}
      (reads : c ≡ tabled_at (tabled_by borrowed lent) n) where
    pub object_told : option_map (by_number (target_of t)) c ≡ tabled_at t.tabled n
    object_told =
        ap (λ (s : Table). option_map (by_number (target_by s.ways s.occupants)) c) (sym view)
        ∙ ap (option_map (by_number name))
        (reads ∙ ap (λ cs. tabled_at (tabled_by cs lent) n) same_cells
        ∙ ap (λ gs. tabled_at (tabled_by cells gs) n) same_index)
        ∙ sym (tabled_at-named name (tabled_by cells es) n) ∙ ap (λ (s : Table). tabled_at s.tabled n) view

    here : c ≡ tabled_at (tabled_by cells es) n
    here =
        reads ∙ ap (λ cs. tabled_at (tabled_by cs lent) n) same_cells
        ∙ ap (λ gs. tabled_at (tabled_by cells gs) n) same_index

    -- each word that it holds leads to an object
    pub told_leads : (i : ℕ) {value : Option ℕ} → Some value ≡ field_in_cell c i → HasTarget t value
    told_leads i {value} found =
        subst (λ (d : Option (Option ℕ)). IfSome d (λ v. HasTarget t v)) (sym found)
        (field_of_each (leads_by t.round.good t.ways t.occupants false) refl c i
        (λ k is. subst (λ (s : Table). Each (leads_by s.round.good s.ways s.occupants false) (values_in k)) view
        (each_anyhow round.good ways (occupants_of cells) (is_healed round.number k) (values_in k)
        (each_held round.number leads (tabled_by cells es) n k (sym here ∙ is) sound.1.led).2)))

    -- so does that of its referent
    pub referent_led : HasTarget t (referent_of (tabled_reference c))
    referent_led =
        referent_of_each (leads_by t.round.good t.ways t.occupants false) refl c
        (λ k is. subst (λ (s : Table). Each (leads_by s.round.good s.ways s.occupants false) (values_in k)) view
        (each_anyhow round.good ways (occupants_of cells) (is_healed round.number k) (values_in k)
        (each_held round.number leads (tabled_by cells es) n k (sym here ∙ is) sound.1.led).2))

    pub referent_told : {bits : ℕ} → bits ≡ bits_told t.ways.pages.uses (referent_of (tabled_reference c))
        → IsWordHeld t.round.good t.ways t.occupants (is_healed_in t.round.number (tabled_at t.tabled n))
        (referent_of (tabled_reference (tabled_at t.tabled n))) bits
    referent_told {bits} own =
        subst (λ (s : Table). IsWordHeld s.round.good s.ways s.occupants (is_healed_in s.round.number
        (tabled_at s.tabled n))
        (referent_of (tabled_reference (tabled_at s.tabled n))) bits) view
        (rw (tabled_at-named name (tabled_by cells es) n)
        (held_referent (tabled_at (tabled_by cells es) n) (own ∙ ap (λ (s : Table). bits_told s.ways.pages.uses
        (referent_of (tabled_reference c))) (sym view)
        ∙ ap (λ (d : Option Tabled). bits_told ways.pages.uses (referent_of (tabled_reference d))) here)
        (λ k at. (each_held round.number leads (tabled_by cells es) n k at sound.1.led).2)))

    -- and is what the object holds by number
    pub word_told : (i : ℕ) {bits : Option ℕ} → bits ≡ option_map (bits_told t.ways.pages.uses) (field_in_cell c i)
        → IfSome bits (IsWordHeld t.round.good t.ways t.occupants (is_healed_in t.round.number (tabled_at t.tabled n))
        (field_held (tabled_at t.tabled n) i))
    word_told i {bits} own =
        subst (λ (s : Table). IfSome bits (IsWordHeld s.round.good s.ways s.occupants (is_healed_in s.round.number
        (tabled_at s.tabled n))
        (field_held (tabled_at s.tabled n) i))) view
        (rw (tabled_at-named name (tabled_by cells es) n)
        (held_in (tabled_at (tabled_by cells es) n) i (own ∙ ap (λ (s : Table). option_map (bits_told s.ways.pages.uses)
        (field_in_cell c i)) (sym view)
        ∙ ap (λ d. option_map (bits_told ways.pages.uses) (field_in_cell d i)) here)
        (λ k at. (each_held round.number leads (tabled_by cells es) n k at sound.1.led).2)))

    -- and where it is the one that was read last, it is null or has the good colour
    word_read : (k : Tabled) → c ≡ Some k → (field : Option ℕ)
        → IfRead round n field (is_in_colour round.good (word_in field k.object))
    word_read k is field same =
        by (place_if_live cells (place_in es n) n)
        (sym is ∙ here ∙ tabled_at-place cells es n sound.0.placed.rises)
      where
        number : k.object.no ≡ n
        number = number_of (tabled_by cells es) n k (sym here ∙ is)

        by : (place : Option ℕ) → Some k ≡ at_place cells place
            → is_in_colour round.good (word_in field k.object) ≡ true
        by None at = absurd (none-some k (sym at))
        by (Some p) at =
            sound.1.read p k (sym at) field
            (same ∙ ap (λ (m : ℕ). Some (let w : WordName = record { no = m; field = field } in w)) (sym number))

    told_so : (v : Option ℕ) (field : Option ℕ) → HasTarget t v
        → IfRead round n field (is_in_colour round.good v)
        → IfRead t.round n field (are_in_colour t.round.good (bits_told t.ways.pages.uses v))
    told_so v field leads good =
        subst (λ (s : Table). IfRead s.round n field (are_in_colour s.round.good (bits_told s.ways.pages.uses v))) view
        (λ same. told_good round.good ways (occupants_of cells) false v addressed
        (ap (λ (s : Table). leads_by s.round.good s.ways s.occupants false v) view ∙ leads) (good same))

    pub field_told_good : (i : ℕ) {v : Option ℕ} → Some v ≡ field_in_cell c i
        → IfRead t.round n (Some i) (are_in_colour t.round.good (bits_told t.ways.pages.uses v))
    field_told_good i {v} held = told_so v (Some i) (told_leads i held) (by c refl held)
      where
        by : (d : Option Tabled) → c ≡ d → Some v ≡ field_in_cell d i
            → IfRead round n (Some i) (is_in_colour round.good v)
        by None is held = absurd (none-some v (sym held))
        by (Some k) is held = λ same.
            ap (is_in_colour round.good) (sym (field_is k i v (sym held))) ∙ word_read k is (Some i) same

    pub referent_told_good : IfRead t.round n None
        (are_in_colour t.round.good (bits_told t.ways.pages.uses (referent_of (tabled_reference c))))
    referent_told_good =
        told_so (referent_of (tabled_reference c)) None referent_led (by c refl)
      where
        by : (d : Option Tabled) → c ≡ d
            → IfRead round n None (is_in_colour round.good (referent_of (tabled_reference d)))
        by None is = λ same. refl
        by (Some k) is = word_read k is None

    pub blind_told : {X : Type 0} (f : Option Tabled → X)
        → ((name : Option ℕ → Option ℕ) (c : Option Tabled) → f (option_map (by_number name) c) ≡ f c)
        → f c ≡ f (tabled_at t.tabled n)
    blind_told f blind = sym (blind (target_of t) c) ∙ ap f object_told

    -- bits are told of each field that there is
    pub told_there : (i : ℕ) {bits : Option ℕ} → bits ≡ option_map (bits_told ways.pages.uses) (field_in_cell c i)
        → is_some bits ≡ has_field (tabled_at t.tabled n) i
    told_there i own = some_bits c i own ∙ blind_told (λ k. has_field k i) (has_field-named i)

  -- a search finds a place exactly where there is an object
  pub found_there : (n : ℕ) (place : Option ℕ) {t : Table} → seen_table round ways cells es slots last room ≡ t
      → {borrowed : List (Option Tabled)} {lent : List Entry} → borrowed ≡ cells → lent ≡ es
      → place ≡ place_if_live borrowed (place_in lent n) n → is_some place ≡ is_some (tabled_at t.tabled n)
  found_there n place view same_cells same_index is =
      found_where_there n place sound.0.placed same_cells same_index is
      ∙ sym (some-named name (tabled_at (tabled_by cells es) n))
      ∙ ap is_some (sym (tabled_at-named name (tabled_by cells es) n))
      ∙ ap (λ (s : Table). is_some (tabled_at s.tabled n)) view

  -- each object lies in one cell, and in no other
  pub lie_once : {t : Table} → seen_table round ways cells es slots last room ≡ t
      → LieOnce t.occupants (λ n. is_some (tabled_at t.tabled n))
  lie_once {t} view = record {
    lies = λ n is.
        let place = place_if_live cells (place_in es n) n in
        lies_if n place refl (found_there n place view refl refl refl ∙ is);
    there = λ place n lies. there_seen (lying_place view lies) view;
    once = λ one other n here there.
        let own : Some one ≡ Some other = sym (lying_place view here).listed ∙ (lying_place view there).listed in cc;
  }
    where
      lies_if : (n : ℕ) (place : Option ℕ) → place ≡ place_if_live cells (place_in es n) n → is_some place ≡ true
          → (p : ℕ) × LiesAt t n p
      lies_if n None is some = absurd (false≢true some)
      lies_if n (Some p) is some = (p, found_lies view n (Some p) refl refl is)

  -- and the pages have those cells as free in which nothing lies, and which are kept for nothing
  pub free_seen : {t : Table} → seen_table round ways cells es slots last room ≡ t
      → AreFree (map is_none t.occupants) t.ways.forwards t.ways.pages.uses
  free_seen view =
      subst (λ (s : Table). AreFree (map is_none s.occupants) s.ways.forwards s.ways.pages.uses) view
      (subst (λ bs. AreFree bs ways.forwards ways.pages.uses) (sym (none-occupants cells)) sound.0.placed.free)
