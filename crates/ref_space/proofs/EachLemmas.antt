-- What the cells hold as each object is changed: no mark is left, or what isn't marked refers to nothing.
use Rattle.ref_space.proofs.Common.{◌≡◌, ℕ, refl, ◌∙◌, ap, List, [], ◌∷◌, length, map, Option, Some, None, arith}
use Rattle.ref_space.proofs.Common.{length-map, option_map, nulls, IsSoundTable, numbers_by, blanked_unless_marked}
use Rattle.ref_space.proofs.Common.{cell_at, before, tabled_by, seen_table, IsPlaced, Tabled, Table, marked_of}
use Rattle.ref_space.proofs.Common.{Entry, is_none}
use Rattle.ref_space.proofs.Common.{sym, AreIndexed, Each, IsSoundNaming, by_number, leads_by, target_by, occupants_of}
use Rattle.ref_space.proofs.Common.{place_in, values_in}
use Rattle.ref_space.proofs.ChangeLemmas.{seen_by}
use Rattle.ref_space.proofs.NamingLemmas.{held_map, each_in_none, Keeps}
use Rattle.ref_space.proofs.Common.{Bool, true, Reference, cleared, reference_by_number}
use Rattle.ref_base.specs.Heaps.{changed_reference}
use Rattle.std.proofs.lemmas.List.{with_items_is}
use Rattle.ref_space.proofs.FreeLemmas.{is_none-mapped}
use Rattle.std.specs.Prelude.{Vec}
use Rattle.std.specs.Vec.{with_items}
use Rattle.std.proofs.Math.ListN.{get_or-map}
use Rattle.ref_space.specs.Tables.{with_nothing_done, table_begun, is_healed}
use Rattle.ref_space.specs.Naming.{EachHeld, IsHeldIn}
use Rattle.ref_space.specs.declared.colour.Colour.{Colour}
use Rattle.ref_space.proofs.Common.{◌+◌, ◌-◌, ◌^◌, ◌<◌, ◌==◌, false, true, ◌≤◌, nat_lt, le-ltb, lt-ltb}
use Rattle.std.proofs.lemmas.Bool.{ne_eqb}
use Rattle.ref_space.proofs.Common.{subst}
use Rattle.ref_space.proofs.HealLemmas.{slots_healed, slots-healed}
use Rattle.ref_space.specs.Tables.{RoundView}
use Rattle.ref_space.specs.Places.{IsReadIn}
use Rattle.ref_space.proofs.ReadLemmas.{none_read, read_mapped}
use Rattle.ref_space.specs.Moves.{Ways}
use Rattle.ref_space.specs.Naming.{IsSettled, healed_word}
use Rattle.ref_space.specs.Moves.{tuned}
use Rattle.ref_space.proofs.NamingLemmas.{each_anyhow}
use Rattle.ref_space.proofs.FreeLemmas.{none-settled}
use Rattle.ref_space.specs.Pages.{is_chosen_place}

-- items that are lent to be changed each
pub items_mapped : {X Z : Type 0} (g : X → X) (v : Vec X Z) {lent now : List X} → length v.items ≡ v.len
    → now ≡ map g lent → lent ≡ v.items → (with_items v now).items ≡ map g v.items
items_mapped g v {lent} {now} size is same =
    with_items_is v now (ap length is ∙ length-map lent g ∙ ap length same ∙ size) ∙ is ∙ ap (map g) same

module _ (f : Tabled → Tabled) (keeps : (k : Tabled) → (f k).object.no ≡ k.object.no) where
  before-each : (c : Option Tabled) (n : ℕ) (ks : List Tabled)
      → before (option_map f c) n (map f ks) ≡ map f (before c n ks)
  before-each None n ks = refl
  before-each (Some k) n ks = grind arith

  -- each cell changed is each object changed
  tabled_by-each : (cells : List (Option Tabled)) (es : List Entry)
      → tabled_by (map (option_map f) cells) es ≡ map f (tabled_by cells es)
  tabled_by-each cells [] = refl
  tabled_by-each cells (e ∷ es) =
      ap (λ c. before c e.no (tabled_by (map (option_map f) cells) es)) (get_or-map (option_map f) cells e.place None)
      ∙ ap (before (option_map f (cell_at cells e.place)) e.no) (tabled_by-each cells es)
      ∙ before-each (cell_at cells e.place) e.no (tabled_by cells es)

  -- and as many hold something
  is_none-each : (cells : List (Option Tabled)) → map is_none (map (option_map f) cells) ≡ map is_none cells
  is_none-each [] = refl
  is_none-each (c ∷ cs) = grind (arith, is_none-mapped, is_none-each cs)

  entry_number-each : (cells : List (Option Tabled)) → occupants_of (map (option_map f) cells) ≡ occupants_of cells
  entry_number-each [] = refl
  entry_number-each (None ∷ cs) = ap (λ os. None ∷ os) (entry_number-each cs)
  entry_number-each (Some k ∷ cs) =
      ap (λ n. Some n ∷ occupants_of (map (option_map f) cs)) (keeps k)
      ∙ ap (λ os. Some k.object.no ∷ os) (entry_number-each cs)

  map_commutes : (h : Tabled → Tabled) → ((k : Tabled) → h (f k) ≡ f (h k)) → (ks : List Tabled)
      → map h (map f ks) ≡ map f (map h ks)
  map_commutes h same [] = refl
  map_commutes h same (k ∷ ks) =
      ap (λ l. l ∷ map h (map f ks)) (same k) ∙ ap (λ ls. f (h k) ∷ ls) (map_commutes h same ks)

  -- each entry is of its cell's object still
  listed_each : (cells : List (Option Tabled)) (es : List Entry) → AreIndexed cells es → (p : ℕ) (c : Option Tabled)
      → cell_at cells p ≡ c → (k : Tabled) → option_map f (cell_at cells p) ≡ Some k
      → place_in es k.object.no ≡ Some p
  listed_each cells es listed p None is k at = absurd (cc)
  listed_each cells es listed p (Some l) is k at =
      let own : Some (f l) ≡ Some k = sym (ap (option_map f) is) ∙ at in
      let number : k.object.no ≡ l.object.no = grind (arith, keeps l) in
      rw number (listed p l is)

  -- and so where they are lent for it
  pub items_each : {Z : Type 0} (v : Vec (Option Tabled) Z) {lent now : List (Option Tabled)} → length v.items ≡ v.len
      → now ≡ map (option_map f) lent → lent ≡ v.items → (with_items v now).items ≡ map (option_map f) v.items
  items_each v = items_mapped (option_map f) v

  module _ (cells : List (Option Tabled)) {ds : List (Option Tabled)} (is : ds ≡ map (option_map f) cells)
      (es : List Entry) where
    pub tabled_by-all : tabled_by ds es ≡ map f (tabled_by cells es)
    tabled_by-all = ap (λ cs. tabled_by cs es) is ∙ tabled_by-each cells es

    cell_at-all : (p : ℕ) → cell_at ds p ≡ option_map f (cell_at cells p)
    cell_at-all p = ap (λ cs. cell_at cs p) is ∙ get_or-map (option_map f) cells p None

    pub length-all : length ds ≡ length cells
    length-all = ap length is ∙ length-map cells (option_map f)

    pub occupants-all : occupants_of ds ≡ occupants_of cells
    occupants-all = ap occupants_of is ∙ entry_number-each cells

    module _ (round : RoundView) (ways : Ways) (slots : List (Option ℕ)) where
      pub seen_all : (last room : ℕ)
          → ((k : Tabled) → by_number (target_by ways (occupants_of cells)) (f k)
          ≡ f (by_number (target_by ways (occupants_of cells)) k))
          → seen_table round ways ds es slots last room
          ≡ (let t : Table = seen_table round ways cells es slots last room in record t { tabled = map f t.tabled })
      seen_all last room same =
          ap (seen_by round ways last room (tabled_by ds es) slots) occupants-all
          ∙ ap (λ ks. seen_by round ways last room ks slots (occupants_of cells)) tabled_by-all
          ∙ ap (λ ks. record (seen_table round ways cells es slots last room) { tabled = ks })
          (map_commutes (by_number (target_by ways (occupants_of cells))) same (tabled_by cells es))

      pub listed_all : AreIndexed cells es → AreIndexed ds es
      listed_all listed p k at = listed_each cells es listed p (cell_at cells p) refl k (sym (cell_at-all p) ∙ at)

      pub naming_all : IsSoundNaming round ways cells es slots
          → Keeps round.number (leads_by round.good ways (occupants_of cells)) f
          → ((k : Tabled) → IsReadIn round k → IsReadIn round (f k))
          → IsSoundNaming round ways ds es slots
      naming_all naming holds reads = record {
        listed = listed_all naming.listed;
        begun = naming.begun;
        apart = naming.apart;
        rooted = rw occupants-all naming.rooted;
        led = rw (occupants-all, tabled_by-all)
            (held_map round.number (leads_by round.good ways (occupants_of cells)) round.number
            (leads_by round.good ways (occupants_of cells)) f holds
            (tabled_by cells es) naming.led);
        read = λ p k at. read_mapped round f reads (cell_at cells p) (λ l own. naming.read p l own) k
            (sym (cell_at-all p) ∙ at);
      }

    pub placed_all : {ways : Ways} {last : ℕ} → IsPlaced cells es ways last → IsPlaced ds es ways last
    placed_all {ways} {last} placed = grind (arith, tabled_by-all, length-map, is_none-each)

    pub sound_all : {round next : RoundView} {ways : Ways} {last room count index_room marked marks : ℕ}
        → IsSoundTable round cells es ways last room count index_room marked
        → marks ≡ length (marked_of next.number (map f (tabled_by cells es)))
        → IsSoundTable next ds es ways last room count index_room marks
    sound_all sound counted = search (placed_all, length-all, tabled_by-all, length-map)

  -- what is counted of each object is counted of it changed
  pub numbers_by-each : (count : Tabled → ℕ) → ((k : Tabled) → count (f k) ≡ count k) → (ks : List Tabled)
      → numbers_by count (map f ks) ≡ numbers_by count ks
  numbers_by-each count same [] = refl
  numbers_by-each count same (k ∷ ks) = grind (arith, numbers_by-each count same ks)

pub marked_of-anew : (ks : List Tabled) → marked_of 1 (map with_nothing_done ks) ≡ []
marked_of-anew [] = refl
marked_of-anew (k ∷ ks) = marked_of-anew ks

-- nothing is marked in the next round
pub marked_of-next : (n : ℕ) (p : Bool → Option ℕ → Bool) (ks : List Tabled) → EachHeld n p ks
    → marked_of (n + 1) ks ≡ []
marked_of-next n p [] held = refl
marked_of-next n p (k ∷ ks) held =
    let other : (k.marked_in == n + 1) ≡ false = ne_eqb k.marked_in (n + 1) (λ same. omega (arith, held.0.0, same)) in
    simp other (marked_of-next n p ks held.1)

-- what isn't marked keeps its number, and all marks and holds stay
pub blanked_keeps : (r : ℕ) (k : Tabled) → (blanked_unless_marked r k).object.no ≡ k.object.no
blanked_keeps r k = grind arith

pub blanked_marked : (r : ℕ) (k : Tabled) → (blanked_unless_marked r k).marked_in ≡ k.marked_in
blanked_marked r k = grind arith

pub blanked_holds : (r : ℕ) (k : Tabled) → (blanked_unless_marked r k).holds ≡ k.holds
blanked_holds r k = grind arith

-- as many nulls as there were values
pub nulls-each : (vs : List (Option ℕ)) → nulls (length vs) ≡ map (λ v. None) vs
nulls-each [] = refl
nulls-each (v ∷ vs) = ap (λ ws. None ∷ ws) (nulls-each vs)

-- what it holds leads to objects still
pub blanked-named : (r : ℕ) (name : Option ℕ → Option ℕ) → name None ≡ None → (k : Tabled)
    → by_number name (blanked_unless_marked r k) ≡ blanked_unless_marked r (by_number name k)
blanked-named r name null k = grind (arith, nulls_named k.object.fields, cleared_named k.object.reference)
  where
    nulls_named : (vs : List (Option ℕ)) → map name (map (λ v. None) vs) ≡ map (λ v. None) (map name vs)
    nulls_named [] = refl
    nulls_named (v ∷ vs) = grind (arith, nulls_named vs)

    cleared_named : (r : Option Reference)
        → option_map (reference_by_number name) (changed_reference cleared r)
        ≡ changed_reference cleared (option_map (reference_by_number name) r)
    cleared_named None = refl
    cleared_named (Some r) = ap (λ (n : Option ℕ). Some (record r { referent = n })) null

nulls_lead : (p : Option ℕ → Bool) → p None ≡ true → (vs : List (Option ℕ)) → Each p (map (λ v. None) vs)
nulls_lead p null [] = tt
nulls_lead p null (v ∷ vs) = (null, nulls_lead p null vs)

pub blanked_leads : (r : ℕ) (p : Bool → Option ℕ → Bool) → ((b : Bool) → p b None ≡ true)
    → Keeps r p (blanked_unless_marked r)
blanked_leads r p null k held =
    grind (
      arith,
      null (is_healed r k),
      nulls_lead (p (is_healed r k)) (null (is_healed r k)) k.object.fields,
    )

-- ---- a round begins

held_next : (n : ℕ) (old new : Colour) (ways : Ways) (os : List (Option ℕ)) (ks : List Tabled)
    → EachHeld n (leads_by old ways os) ks → EachHeld (n + 1) (leads_by new (tuned ways) os) ks
held_next n old new ways os [] held = tt
held_next n old new ways os (k ∷ ks) held =
    let other : (k.healed_in == n + 1) ≡ false = ne_eqb k.healed_in (n + 1) (λ same. omega (arith, held.0.1, same)) in (
      (
        omega (arith, held.0.0),
        omega (arith, held.0.1),
        subst (λ b. Each (leads_by new (tuned ways) os b) (values_in k)) (sym other)
            (each_in_none old new ways os (is_healed n k) (values_in k) held.0.2),
      ),
      held_next n old new ways os ks held.1,
    )

held_anew : (n : ℕ) (old new : Colour) (ways : Ways) (os : List (Option ℕ)) (k : Tabled)
    → IsHeldIn n (leads_by old ways os) k → IsHeldIn 1 (leads_by new (tuned ways) os) (with_nothing_done k)
held_anew n old new ways os k held =
    (omega arith, omega arith, each_in_none old new ways os (is_healed n k) (values_in k) held.2)

-- nothing is still to move, so that it may
pub sound_tuned : {round : RoundView} {cells : List (Option Tabled)} {es : List Entry} {ways : Ways}
    {last room count index_room marked : ℕ} → IsSettled ways (occupants_of cells)
    → IsSoundTable round cells es ways last room count index_room marked
    → IsSoundTable round cells es (tuned ways) last room count index_room marked
sound_tuned {cells = cells} {ways = ways} settled sound = record {
  placed = record {
    rises = sound.placed.rises;
    given = sound.placed.given;
    free = sound.placed.free;
    settled = λ is_tuned. none-settled cells ways.pages.uses settled;
    taken = sound.placed.taken;
    rising = sound.placed.rising;
    addressed = sound.placed.addressed;
    small = sound.placed.small;
    few = sound.placed.few;
  };
  cells_fit = sound.cells_fit;
  open_fit = sound.open_fit;
  twice = sound.twice;
  packed = sound.packed;
  counted = sound.counted;
  within = sound.within;
  index_fits = sound.index_fits;
  marks_counted = sound.marks_counted;
}

module _ (old : RoundView) (new : Colour) (ways : Ways) (cells : List (Option Tabled)) (es : List Entry)
    (slots : List (Option ℕ)) {healed : List (Option ℕ)}
    (heals : healed ≡ map (healed_word new ways (occupants_of cells)) slots)
    (settled : IsSettled ways (occupants_of cells)) (small : length (occupants_of cells) ≤ 2 ^ 17)
    (new_apart : (place : ℕ) → is_chosen_place ways.pages.uses place ≡ true → ways.last ≡ new → ⊥) where
  -- the next
  module _ (less : old.number < 2 ^ 8 - 1) {next : RoundView}
      (is : next ≡ record { number = old.number + 1; good = new; read = None })
    where
      pub sound_next : {last room count index_room marked : ℕ}
          → IsSoundTable old cells es ways last room count index_room marked → IsSoundNaming old ways cells es slots
          → IsSoundTable next cells es (tuned ways) last room count index_room 0
      sound_next sound naming = record {
        placed = (sound_tuned settled sound).placed;
        cells_fit = sound.cells_fit;
        counted = sound.counted;
        open_fit = sound.open_fit;
        twice = sound.twice;
        packed = sound.packed;
        within = sound.within;
        index_fits = sound.index_fits;
        marks_counted = rw is
            (sym (ap length (marked_of-next old.number (leads_by old.good ways (occupants_of cells))
            (tabled_by cells es)
            naming.led)));
      }

      pub naming_next : IsSoundNaming old ways cells es slots → IsSoundNaming next (tuned ways) cells es healed
      naming_next naming = record {
        listed = naming.listed;
        rooted = rw (is, heals) (slots_healed new (tuned ways) (occupants_of cells) settled small old.good slots
            (each_anyhow old.good ways (occupants_of cells) true slots naming.rooted));
        begun = rw is (omega arith);
        apart = rw is new_apart;
        led = rw is (held_next old.number old.good new ways (occupants_of cells) (tabled_by cells es) naming.led);
        read = λ p k at. none_read next (ap (λ (r : RoundView). r.read) is) k;
      }

      pub seen_next : Each (leads_by old.good ways (occupants_of cells) true) slots → (last room : ℕ)
          → seen_table next (tuned ways) cells es healed last room ≡ table_begun
          (seen_table old ways cells es slots last room) new
      seen_next rooted last room =
          let own : nat_lt old.number (2 ^ 8 - 1) ≡ true =
          lt-ltb old.number (2 ^ 8 - 1) less in
          ap (λ r. seen_table r (tuned ways) cells es healed last room) is
          ∙ ap (λ vs. record (seen_table (record { number = old.number + 1; good = new; read = None })
          (tuned ways) cells es slots last
          room) {
            slots = vs;
          })
          (ap (map (target_by ways (occupants_of cells))) heals
          ∙ slots-healed new ways (occupants_of cells) settled small old.good slots
          (each_anyhow old.good ways (occupants_of cells) true slots rooted))
          ∙ simp own refl

  -- the first again, once all numbers are spent
  module _ {ds : List (Option Tabled)} (each : ds ≡ map (option_map with_nothing_done) cells) {next : RoundView}
      (is : next ≡ record { number = 1; good = new; read = None }) where
    pub naming_anew : IsSoundNaming old ways cells es slots → IsSoundNaming next (tuned ways) ds es healed
    naming_anew naming = record {
      listed = listed_all with_nothing_done (λ k. refl) cells each es old ways slots naming.listed;
      rooted = rw (is, heals, occupants-all with_nothing_done (λ k. refl) cells each es)
          (slots_healed new (tuned ways) (occupants_of cells) settled small old.good slots
          (each_anyhow old.good ways (occupants_of cells) true slots naming.rooted));
      begun = rw is (omega arith);
      apart = rw is new_apart;
      led = rw (
        is,
        occupants-all with_nothing_done (λ k. refl) cells each es,
        tabled_by-all with_nothing_done (λ k. refl) cells each es,
      )
          (held_map old.number (leads_by old.good ways (occupants_of cells)) 1
          (leads_by new (tuned ways) (occupants_of cells)) with_nothing_done
          (held_anew old.number old.good new ways (occupants_of cells)) (tabled_by cells es) naming.led);
      read = λ p k at. none_read next (ap (λ (r : RoundView). r.read) is) k;
    }

    pub seen_anew : 2 ^ 8 - 1 ≤ old.number → Each (leads_by old.good ways (occupants_of cells) true) slots
        → (last room : ℕ)
        → seen_table next (tuned ways) ds es healed last room ≡ table_begun
        (seen_table old ways cells es slots last room) new
    seen_anew spent rooted last room =
        let own : nat_lt old.number (2 ^ 8 - 1) ≡ false = le-ltb old.number (2 ^ 8 - 1) spent in
        ap (λ r. seen_table r (tuned ways) ds es healed last room) is
        ∙ ap (λ vs. record (seen_table (record { number = 1; good = new; read = None })
        (tuned ways) ds es slots last room) { slots = vs })
        (ap (λ os. map (target_by ways os) healed) (occupants-all with_nothing_done (λ k. refl) cells each es)
        ∙ ap (map (target_by ways (occupants_of cells))) heals
        ∙ slots-healed new ways (occupants_of cells) settled small old.good slots
        (each_anyhow old.good ways (occupants_of cells) true slots rooted)
        ∙ ap (λ os. map (target_by ways os) slots) (sym (occupants-all with_nothing_done (λ k. refl) cells each es)))
        ∙ ap (λ (t : Table). record t { ways = tuned t.ways; round = record { number = 1; good = new; read = None } })
        (seen_all with_nothing_done (λ k. refl) cells each es old ways slots last room (λ k. refl))
        ∙ simp own refl
