-- An object moves to where it was to go: what the index leads to, and what words lead to, is as it was.
use Rattle.ref_space.proofs.Common.{◌≡◌, ℕ, ◌<◌, ◌≤◌, ◌==◌, Bool, true, false, refl, sym, ap, subst, ◌∙◌, arith, List}
use Rattle.ref_space.proofs.Common.{[]}
use Rattle.ref_space.proofs.Common.{◌∷◌, length, set, map, Option, Some, None, is_some, is_none, inl, inr}
use Rattle.ref_space.proofs.Common.{cell_at, before, tabled_by, place_in, Tabled, Table, Entry, Rises, AllAbove}
use Rattle.ref_space.proofs.Common.{NoneAbove}
use Rattle.ref_space.proofs.Common.{occupant_in, occupants_of, IsPlaced, AreIndexed, IsSoundNaming, seen_table}
use Rattle.ref_space.proofs.Common.{leads_by}
use Rattle.ref_space.proofs.Common.{target_by, cases_Bool, eqb-true, eq-eqb, false≢true, if◌then◌else◌, EachHeld}
use Rattle.ref_space.proofs.Common.{place_by, slice_index_or, suc}
use Rattle.std.proofs.lemmas.Bool.{true≢false, eqb-false, ne_eqb, ltb-true}
use Rattle.std.proofs.lemmas.Option.{none-some, same_Some}
use Rattle.std.proofs.lemmas.List.{set_comm, map-set, length-set, length-map, get_or-set_same, get_or-set_other}
use Rattle.std.proofs.Math.ListN.{get_or-map}
use Rattle.ref_space.specs.Places.{with_place_of, is_of}
use Rattle.ref_space.specs.Tables.{moved_from, marked_of}
use Rattle.ref_space.specs.Places.{IsSoundTable}
use Rattle.ref_space.specs.Naming.{by_number}
use Rattle.ref_space.specs.Moves.{Ways, AreFree, IsTarget, Leaves, forward_of}
use Rattle.ref_space.specs.Pages.{is_chosen_place, with_place, page_at, opened, taken_of, Packed}
use Rattle.ref_space.specs.Moves.{ways_left}
use Rattle.ref_space.specs.Pages.{Pages, with_given}
use Rattle.std.proofs.Common.{◌%◌, ◌/◌, ◌+◌}
use Rattle.ref_space.proofs.CallLemmas.{between-with}
use Rattle.ref_space.proofs.NextPlaces.{length-with}
use Rattle.ref_space.proofs.PlaceUses.{chosen_place-with}
use Rattle.ref_space.proofs.RoomLemmas.{opened-chosen}
use Rattle.ref_space.specs.ColouredWords.{has_colour}
use Rattle.ref_space.specs.Naming.{leads_from}
use Rattle.ref_space.specs.Tables.{RoundView}
use Rattle.ref_space.proofs.ReadLemmas.{IsReadGood, read_gone, read_set}
use Rattle.ref_space.proofs.IndexLemmas.{place_in-none, place_in-at, place_in-past}
use Rattle.ref_space.proofs.Common.{count_below, get_or, nat_lt}
use Rattle.ref_space.proofs.PlaceLemmas.{IsPlaceOf, is_of-some}
use Rattle.ref_space.proofs.FreeLemmas.{vacant-cell, holds_nothing}
use Rattle.ref_space.proofs.FreePlaces.{free_moved}
use Rattle.ref_space.proofs.WayLemmas.{AreSame, target-same, leads-same, moved_kept, held_named, held_leads, IsKept}
use Rattle.ref_space.proofs.NamingLemmas.{each_to, held_to, map_same, named_same}

-- ---- an entry names another place

module _ (n to : ℕ) where
  above-with : (m : ℕ) (es : List Entry) → AllAbove m es → AllAbove m (with_place_of es n to)
  above-with m [] above = tt
  above-with m (e ∷ es) above = (above.0, above-with m es above.1)

  pub rises-with : (es : List Entry) → Rises es → Rises (with_place_of es n to)
  rises-with [] rises = tt
  rises-with (e ∷ es) rises = (above-with e.no es rises.0, rises-with es rises.1)

  pub given-with : (last : ℕ) (es : List Entry) → NoneAbove last es → NoneAbove last (with_place_of es n to)
  given-with last [] given = tt
  given-with last (e ∷ es) given = (given.0, given-with last es given.1)

  pub length-with_place : (es : List Entry) → length (with_place_of es n to) ≡ length es
  length-with_place [] = refl
  length-with_place (e ∷ es) = ap suc (length-with_place es)

  own-place : (es : List Entry) (p : ℕ) → place_in es n ≡ Some p → place_in (with_place_of es n to) n ≡ Some to
  own-place [] p listed = absurd (none-some p listed)
  own-place (e ∷ es) p listed =
      elim (cases_Bool (e.no == n)) [
        | inl own ↦ simp own refl
        | inr other ↦ simp other (own-place es p (sym (simp other refl) ∙ listed))
      ]

  other-place : (es : List Entry) (m : ℕ) → (m == n) ≡ false → place_in (with_place_of es n to) m ≡ place_in es m
  other-place [] m other = refl
  other-place (e ∷ es) m other =
      elim (cases_Bool (e.no == m)) [
        | inl own ↦
            let same : (e.no == n) ≡ false = ap (λ k. k == n) (eqb-true e.no m own) ∙ other in
            simp (own, same) refl
        | inr differs ↦ simp differs (other-place es m other)
      ]

-- ---- what the index leads to

-- a cell of another number's object doesn't count
foreign : (c : Option Tabled) (n m : ℕ) → is_of c n ≡ true → (m == n) ≡ false → (ks : List Tabled)
    → before c m ks ≡ ks
foreign None n m own other ks = refl
foreign (Some k) n m own other ks =
    let same = eqb-true k.object.no n own in
    elim (cases_Bool (k.object.no == m)) [
      | inl is ↦
          absurd (true≢false (sym (eq-eqb m n (sym (eqb-true k.object.no m is) ∙ same)) ∙ other))
      | inr differs ↦ simp differs refl
    ]

module _ (cells now : List (Option Tabled)) (n from to : ℕ) (own : is_of (cell_at cells from) n ≡ true)
    (at_to : cell_at now to ≡ cell_at cells from) (free : cell_at cells to ≡ None)
    (gone : cell_at now from ≡ None)
    (as_before : (q : ℕ) → (q ≡ from → ⊥) → (q ≡ to → ⊥) → cell_at now q ≡ cell_at cells q) where
  before_other : (q m : ℕ) → (m == n) ≡ false → (ks : List Tabled)
      → before (cell_at now q) m ks ≡ before (cell_at cells q) m ks
  before_other q m other ks =
      elim (cases_Bool (q == from)) [
        | inl same ↦
            let is = eqb-true q from same in
            ap (λ r. before (cell_at now r) m ks) is ∙ ap (λ c. before c m ks) gone
            ∙ sym (foreign (cell_at cells from) n m own other ks)
            ∙ ap (λ r. before (cell_at cells r) m ks) (sym is)
        | inr not_from ↦ elim (cases_Bool (q == to)) [
          | inl same ↦
              let is = eqb-true q to same in
              ap (λ r. before (cell_at now r) m ks) is ∙ ap (λ c. before c m ks) at_to
              ∙ foreign (cell_at cells from) n m own other ks ∙ sym (ap (λ c. before c m ks) free)
              ∙ ap (λ r. before (cell_at cells r) m ks) (sym is)
          | inr not_to ↦
              ap (λ c. before c m ks) (as_before q (eqb-false q from not_from) (eqb-false q to not_to))
        ]
      ]

  head_other : (e : Entry) → (e.no == n) ≡ false → (ks : List Tabled)
      → before (cell_at now (if e.no == n then to else e.place)) e.no ks ≡ before (cell_at cells e.place) e.no ks
  head_other e other ks =
      ap (λ b. before (cell_at now (if b then to else e.place)) e.no ks) other ∙ before_other e.place e.no other ks

  none-moved : (es : List Entry) → place_in es n ≡ None → tabled_by now (with_place_of es n to) ≡ tabled_by cells es
  none-moved [] none = refl
  none-moved (e ∷ es) none =
      elim (cases_Bool (e.no == n)) [
        | inl own ↦
            absurd (none-some e.place
            (sym (sym (ap (λ b. if b then Some e.place else place_in es n) own) ∙ none)))
        | inr other ↦
            head_other e other (tabled_by now (with_place_of es n to))
            ∙ ap (before (cell_at cells e.place) e.no)
            (none-moved es (sym (ap (λ b. if b then Some e.place else place_in es n) other) ∙ none))
      ]

  pub tabled_by-moved : (es : List Entry) → Rises es → place_in es n ≡ Some from
      → tabled_by now (with_place_of es n to) ≡ tabled_by cells es
  tabled_by-moved [] rises listed = absurd (none-some from listed)
  tabled_by-moved (e ∷ es) rises listed =
      elim (cases_Bool (e.no == n)) [
        | inl own ↦
            let place : e.place ≡ from =
            same_Some e.place from (sym (ap (λ b. if b then Some e.place else place_in es n) own) ∙ listed) in
            let number = eqb-true e.no n own in
            let none = place_in-none es n e.no (omega (arith, number)) rises.0 in
            ap (λ b. before (cell_at now (if b then to else e.place)) e.no (tabled_by now (with_place_of es n to))) own
            ∙ ap (λ c. before c e.no (tabled_by now (with_place_of es n to))) at_to
            ∙ ap (λ q. before (cell_at cells q) e.no (tabled_by now (with_place_of es n to))) (sym place)
            ∙ ap (before (cell_at cells e.place) e.no) (none-moved es none)
        | inr other ↦
            head_other e other (tabled_by now (with_place_of es n to))
            ∙ ap (before (cell_at cells e.place) e.no)
            (tabled_by-moved es rises.1 (sym (ap (λ b. if b then Some e.place else place_in es n) other) ∙ listed))
      ]

  pub listed_moved : (es : List Entry) → AreIndexed cells es → place_in es n ≡ Some from
      → AreIndexed now (with_place_of es n to)
  listed_moved es listed its q k at =
      elim (cases_Bool (q == from)) [
        | inl same ↦
            absurd (none_is k (sym gone ∙ ap (cell_at now) (sym (eqb-true q from same)) ∙ at))
        | inr not_from ↦ elim (cases_Bool (q == to)) [
          | inl same ↦
              let is = eqb-true q to same in
              let here : cell_at cells from ≡ Some k = sym at_to ∙ ap (cell_at now) (sym is) ∙ at in
              let number : k.object.no ≡ n =
              eqb-true k.object.no n (sym (ap (λ c. is_of c n) here) ∙ own) in
              ap (place_in (with_place_of es n to)) number ∙ own-place n to es from its ∙ ap Some (sym is)
          | inr not_to ↦
              let here : cell_at cells q ≡ Some k =
              sym (as_before q (eqb-false q from not_from) (eqb-false q to not_to)) ∙ at in
              let place = listed q k here in
              other-place n to es k.object.no (other q k place not_from) ∙ place
        ]
      ]
    where
      none_is : (k : Tabled) → (let l : Option Tabled = None in l) ≡ Some k → ⊥
      none_is k is = false≢true (ap is_some is)

      other : (q : ℕ) (k : Tabled) → place_in es k.object.no ≡ Some q → (q == from) ≡ false
          → (k.object.no == n) ≡ false
      other q k place not_from =
          elim (cases_Bool (k.object.no == n)) [
            | inl is ↦
                let same = same_Some q from
                (sym place ∙ ap (place_in es) (eqb-true k.object.no n is) ∙ its) in
                absurd (true≢false (sym (eq-eqb q from same) ∙ not_from))
            | inr differs ↦ differs
          ]

-- ---- the table

module _ {cells : List (Option Tabled)} {es : List Entry} {ways : Ways} {last : ℕ}
    (placed : IsPlaced cells es ways last) {n from : ℕ} (place : IsPlaceOf cells es n from)
    (leaves : is_chosen_place ways.pages.uses from ≡ true) where
  abbrev pub to : ℕ
  to = forward_of ways.forwards from

  own_there : (k : Tabled) × (cell_at cells from ≡ Some k) × (k.object.no ≡ n)
  own_there = is_of-some (cell_at cells from) n place.own

  still_there : Leaves (map is_none cells) ways.pages.uses from
  still_there = (leaves, vacant-cell cells from ∙ ap is_none own_there.1)

  pub its : IsTarget (map is_none cells) ways.pages.uses to
  its = placed.free.target from still_there

  free_there : cell_at cells to ≡ None
  free_there = holds_nothing (cell_at cells to) (sym (vacant-cell cells to) ∙ its.vacant)

  pub within_to : to < length cells
  within_to = let within = its.within in omega (arith, within, length-map cells is_none)

  apart : from ≡ to → ⊥
  apart same = true≢false (sym leaves ∙ ap (is_chosen_place ways.pages.uses) same ∙ its.stays)

  lies : slice_index_or (occupants_of cells) from None ≡ Some n
  lies = get_or-map occupant_in cells from None ∙ ap occupant_in own_there.1 ∙ ap Some own_there.2

  module _ {c empty : Option Tabled} (is : c ≡ cell_at cells from) (none : empty ≡ None) where
    abbrev pub now : List (Option Tabled)
    now = set (set cells from empty) to c

    at_to : cell_at now to ≡ cell_at cells from
    at_to =
        get_or-set_same (set cells from empty) to c None
        (let within = within_to in let size = length-set cells from empty in omega (arith, within, size)) ∙ is

    gone : cell_at now from ≡ None
    gone =
        get_or-set_other (set cells from empty) to from c None apart
        ∙ get_or-set_same cells from empty None place.within ∙ none

    as_before : (q : ℕ) → (q ≡ from → ⊥) → (q ≡ to → ⊥) → cell_at now q ≡ cell_at cells q
    as_before q not_from not_to =
        get_or-set_other (set cells from empty) to q c None not_to ∙ get_or-set_other cells from q empty None not_from

    pub occupants_now : occupants_of now ≡ set (set (occupants_of cells) to (Some n)) from None
    occupants_now =
        map-set occupant_in (set cells from empty) to c
        ∙ ap (λ os. set os to (occupant_in c)) (map-set occupant_in cells from empty)
        ∙ ap (λ o. set (set (occupants_of cells) from (occupant_in empty)) to o)
        (ap occupant_in (is ∙ own_there.1) ∙ ap Some own_there.2)
        ∙ ap (λ o. set (set (occupants_of cells) from (occupant_in o)) to (Some n)) none
        ∙ set_comm (occupants_of cells) from to None (Some n) apart

    none_now : map is_none now ≡ set (set (map is_none cells) to false) from true
    none_now =
        map-set is_none (set cells from empty) to c
        ∙ ap (λ os. set os to (is_none c)) (map-set is_none cells from empty)
        ∙ ap (λ o. set (set (map is_none cells) from (is_none empty)) to o) (ap is_none (is ∙ own_there.1))
        ∙ ap (λ o. set (set (map is_none cells) from (is_none o)) to false) none
        ∙ set_comm (map is_none cells) from to true false apart

    tabled_now : tabled_by now (with_place_of es n to) ≡ tabled_by cells es
    tabled_now =
        tabled_by-moved cells now n from to place.own at_to free_there gone as_before es placed.rises place.listed

    pub opened_now : opened (with_place ways.pages.uses from true) ≡ opened ways.pages.uses
    opened_now = opened-chosen ways.pages.uses (page_at ways.pages.uses from) (from % 64) true leaves

    pub placed_moved : IsPlaced now (with_place_of es n to) (ways_left ways from) last
    placed_moved = record {
      rises = rises-with n to es placed.rises;
      given = given-with n to last es placed.given;
      free = subst (λ bs. AreFree bs ways.forwards (with_place ways.pages.uses from true)) (sym none_now)
          (free_moved placed.free from still_there);
      settled = λ is_tuned.
          absurd (true≢false (sym (placed.settled is_tuned from leaves) ∙ still_there.1));
      taken = ap taken_of opened_now ∙ placed.taken ∙ ap length (sym tabled_now);
      rising = between-with ways.pages.uses (page_at ways.pages.uses from) (from % 64) true 1 ways.pages.next
          placed.rising;
      addressed = placed.addressed;
      small = let size = size_now in let small = placed.small in omega (arith, size, small);
      few = let size = size_now in let few = placed.few in
          omega (arith, size, few, length-with_place n to es);
    }
      where
        size_now : length now ≡ length cells
        size_now = length-set (set cells from empty) to c ∙ length-set cells from empty

    module _ {round : RoundView} {slots : List (Option ℕ)} (naming : IsSoundNaming round ways cells es slots) where
      abbrev pub leads : Bool → Option ℕ → Bool
      leads = leads_by round.good ways (occupants_of cells)

      kept : (v : Option ℕ) (q : ℕ) → place_by v ≡ Some q
          → leads_from ways (occupants_of cells) (has_colour ways.last v) (Some q) ≡ true
          → IsKept ways (occupants_of cells) (set (set (occupants_of cells) to (Some n)) from None)
          (has_colour ways.last v) q
      kept v q at led =
          moved_kept ways (occupants_of cells) from n lies leaves
          (get_or-map occupant_in cells to None ∙ ap occupant_in free_there)
          (let within = within_to in omega (arith, within, length-map cells occupant_in)) its.stays
          (has_colour ways.last v) q led

      same_ways : AreSame ways (ways_left ways from)
      same_ways = record {
        forwards = refl;
        last = refl;
        tuned = refl;
        chosen = chosen_place-with ways.pages.uses (page_at ways.pages.uses from) (from % 64) true;
      }

      pub named_still : (b : Bool) (v : Option ℕ) → leads b v ≡ true
          → target_by (ways_left ways from) (occupants_of now) v ≡ target_by ways (occupants_of cells) v
      named_still b v led =
          target-same same_ways (occupants_of now) v
          ∙ ap (λ os. target_by ways os v) occupants_now
          ∙ held_named round.good ways (occupants_of cells) (set (set (occupants_of cells) to (Some n)) from None) b v
          led (kept v)

      pub leads_still : (b : Bool) (v : Option ℕ) → leads b v ≡ true
          → leads_by round.good (ways_left ways from) (occupants_of now) b v ≡ true
      leads_still b v led =
          leads-same same_ways (occupants_of now) round.good b v
          ∙ ap (λ os. leads_by round.good ways os b v) occupants_now
          ∙ held_leads round.good ways (occupants_of cells) (set (set (occupants_of cells) to (Some n)) from None) b v
          led (kept v)

      pub naming_moved : IsSoundNaming round (ways_left ways from) now (with_place_of es n to) slots
      naming_moved = record {
        listed = listed_moved cells now n from to place.own at_to free_there gone as_before es naming.listed
            place.listed;
        begun = naming.begun;
        apart = λ q chosen. naming.apart q (sym (same_ways.chosen q) ∙ chosen);
        rooted = each_to round.number leads (leads_by round.good (ways_left ways from) (occupants_of now)) leads_still
            true slots naming.rooted;
        led = subst (EachHeld round.number (leads_by round.good (ways_left ways from) (occupants_of now)))
            (sym tabled_now)
            (held_to round.number leads (leads_by round.good (ways_left ways from) (occupants_of now)) leads_still
            (tabled_by cells es) naming.led);
        read = read_moved;
      }
        where
          gone_read : IsReadGood round (set cells from empty)
          gone_read = read_gone round cells from place.within naming.read none

          read_moved : IsReadGood round now
          read_moved =
              read_set round (set cells from empty) to
              (let within = within_to in omega (arith, within, length-set cells from empty)) gone_read c
              (λ k own. naming.read from k (sym is ∙ own))

      pub seen_moved : (room : ℕ)
          → seen_table round (ways_left ways from) now (with_place_of es n to) slots last room
          ≡ moved_from (seen_table round ways cells es slots last room) from
      seen_moved room = λ i. record {
        tabled = (ap (map (by_number (target_by (ways_left ways from) (occupants_of now)))) tabled_now
            ∙ named_same round.number leads (target_by (ways_left ways from) (occupants_of now)) (target_by ways
            (occupants_of cells))
            named_still (tabled_by cells es) naming.led) i;
        room = room;
        last = last;
        slots = map_same round.number leads (target_by (ways_left ways from) (occupants_of now)) (target_by ways
            (occupants_of cells))
            named_still true slots naming.rooted i;
        ways = ways_left ways from;
        occupants = (occupants_now
            ∙ ap (λ o. set (set (occupants_of cells) to o) from None) (sym lies)) i;
        round = round;
      }

-- the fields as they stand once the object has moved
module _ {round : RoundView} {cells : List (Option Tabled)} {es : List Entry} {ways : Ways} {slots : List (Option ℕ)}
    {last room count index_room marked : ℕ}
    (sound : IsSoundTable round cells es ways last room count index_room marked
    × IsSoundNaming round ways cells es slots) {n from : ℕ} (place : IsPlaceOf cells es n from)
    (leaves : is_chosen_place ways.pages.uses from ≡ true) {c empty : Option Tabled} (is : c ≡ cell_at cells from)
    (none : empty ≡ None) {goal_place : ℕ} (goes : goal_place ≡ forward_of ways.forwards from) {fs : List Entry}
    (index_is : fs ≡ with_place_of es n goal_place) {less : Pages}
    (given : less ≡ with_given ways.pages (from / 64) (from % 64)) where
  abbrev less_ways : Ways
  less_ways = record ways { pages = less }

  listed_as : fs ≡ with_place_of es n (forward_of ways.forwards from)
  listed_as = index_is ∙ ap (with_place_of es n) goes

  pub sound_moved : IsSoundTable round (set (set cells from empty) goal_place c) fs less_ways last room count
      index_room marked
      × IsSoundNaming round less_ways (set (set cells from empty) goal_place c) fs slots
  sound_moved =
      rw (given, listed_as, goes) (
        record {
          placed = placed_moved sound.0.placed place leaves is none;
          cells_fit = let size = size_now in let fit = sound.0.cells_fit in omega (arith, size, fit);
          open_fit = (let pages = ap length (opened_now sound.0.placed place leaves is none) in let fit =
              sound.0.open_fit in
              omega (arith, pages, fit));
          twice = length-with ways.pages.uses (page_at ways.pages.uses from) (from % 64) true ∙ sound.0.twice;
          packed = subst (Packed ((room + 63) / 64)) (sym (opened_now sound.0.placed place leaves is none))
              sound.0.packed;
          counted = sound.0.counted ∙ ap length (sym (tabled_now sound.0.placed place leaves is none));
          within = sound.0.within;
          index_fits = let size = size_now in let fit = sound.0.index_fits in omega (arith, size, fit);
          marks_counted = sound.0.marks_counted
              ∙ ap (λ ks. length (marked_of round.number ks)) (sym (tabled_now sound.0.placed place leaves is none));
        },
        naming_moved sound.0.placed place leaves is none sound.1,
      )
    where
      size_now : length (set (set cells from empty) (forward_of ways.forwards from) c) ≡ length cells
      size_now = length-set (set cells from empty) (forward_of ways.forwards from) c ∙ length-set cells from empty

  pub table_moved : {t : Table} → seen_table round ways cells es slots last room ≡ t
      → seen_table round less_ways (set (set cells from empty) goal_place c) fs slots last room
      ≡ moved_from t from
  table_moved view =
      rw (given, listed_as, goes) (seen_moved sound.0.placed place leaves is none sound.1 room)
      ∙ ap (λ (s : Table). moved_from s from) view

-- ---- the entry that a search finds

none-with_place : (es : List Entry) (n q : ℕ) → place_in es n ≡ None → with_place_of es n q ≡ es
none-with_place [] n q none = refl
none-with_place (e ∷ es) n q none =
    elim (cases_Bool (e.no == n)) [
      | inl own ↦
          absurd (none-some e.place
          (sym (sym (ap (λ b. if b then Some e.place else place_in es n) own) ∙ none)))
      | inr other ↦
          ap (λ b. record e { place = if b then q else e.place } ∷ with_place_of es n q) other
          ∙ ap (λ fs. e ∷ fs) (none-with_place es n q
          (sym (ap (λ b. if b then Some e.place else place_in es n) other) ∙ none))
    ]

pub found-with_place : (es : List Entry) (n q : ℕ) (e : Entry) → Rises es → count_below es n < length es
    → e ≡ get_or es (count_below es n) e → (e.no == n) ≡ true
    → set es (count_below es n) (record { no = n; place = q }) ≡ with_place_of es n q
found-with_place [] n q e rises h at own = absurd (omega arith)
found-with_place (x ∷ xs) n q e rises h at own =
    elim (cases_Bool (nat_lt x.no n)) [
      | inl below ↦
          let count : count_below (x ∷ xs) n ≡ suc (count_below xs n) = simp below refl in
          let other : (x.no == n) ≡ false =
          ne_eqb x.no n (λ same. let less = ltb-true x.no n below in omega (arith, less, same)) in
          ap (λ i. set (x ∷ xs) i (record { no = n; place = q })) count
          ∙ ap (λ b. record x { place = if b then q else x.place }
          ∷ set xs (count_below xs n) (record { no = n; place = q })) (sym other)
          ∙ ap (λ fs. record x { place = if x.no == n then q else x.place } ∷ fs)
          (found-with_place xs n q e rises.1
          (omega (arith, h, count)) (at ∙ ap (λ i. get_or (x ∷ xs) i e) count) own)
      | inr least ↦
          let count : count_below (x ∷ xs) n ≡ 0 = simp least refl in
          let same : e ≡ x = at ∙ ap (λ i. get_or (x ∷ xs) i e) count in
          let its : (x.no == n) ≡ true = ap (λ (d : Entry). d.no == n) (sym same) ∙ own in
          let number : x.no ≡ n = eqb-true x.no n its in
          let rest = none-with_place xs n q (place_in-none xs n x.no (omega (arith, number)) rises.0) in
          ap (λ i. set (x ∷ xs) i (record { no = n; place = q })) count
          ∙ ap (λ m. record { no = m; place = q } ∷ xs) (sym number)
          ∙ ap (λ b. record x { place = if b then q else x.place } ∷ xs) (sym its)
          ∙ ap (λ fs. record x { place = if x.no == n then q else x.place } ∷ fs) (sym rest)
    ]

pub other-with_place : (es : List Entry) (n q : ℕ) (e : Entry) → Rises es → count_below es n < length es
    → e ≡ get_or es (count_below es n) e → (e.no == n) ≡ false → es ≡ with_place_of es n q
other-with_place es n q e rises h at other =
    sym (none-with_place es n q
    (place_in-at es n e rises h at ∙ ap (λ b. if b then Some e.place else None) other))

pub past-with_place : (es : List Entry) (n q : ℕ) → length es ≤ count_below es n → es ≡ with_place_of es n q
past-with_place es n q past = sym (none-with_place es n q (place_in-past es n past))

module _ (es : List Entry) (n q i : ℕ) (e : Entry) (rises : Rises es) (count : i ≡ count_below es n) where
  pub found-at : i < length es → e ≡ get_or es i e → ((get_or es i e).no == n) ≡ true
      → set es i (record { no = n; place = q }) ≡ with_place_of es n q
  found-at h at own =
      ap (λ j. set es j (record { no = n; place = q })) count
      ∙ found-with_place es n q e rises (omega (arith, h, count)) (at ∙ ap (λ j. get_or es j e) count)
      (ap (λ (d : Entry). d.no == n) at ∙ own)

  pub other-at : i < length es → e ≡ get_or es i e → ((get_or es i e).no == n) ≡ false → es ≡ with_place_of es n q
  other-at h at other =
      other-with_place es n q e rises (omega (arith, h, count)) (at ∙ ap (λ j. get_or es j e) count)
      (ap (λ (d : Entry). d.no == n) at ∙ other)
