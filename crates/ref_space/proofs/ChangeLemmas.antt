-- What a change of one object, or its end, does to a table's fields.
use Rattle.ref_space.specs.Moves.{NoneLeaves}
use Rattle.ref_space.proofs.Common.{◌≡◌, ℕ, ◌<◌, true, false, refl, sym, ◌∙◌, ap, List, [], ◌∷◌, length, get_or, set}
use Rattle.ref_space.proofs.Common.{Option, Some, None, suc, arith, get_or_read, length-set, option_map, is_some}
use Rattle.ref_space.proofs.Common.{cell_at, tabled_by, place_in, place_if_live, seen_table, IsPlaced, Tabled, Table}
use Rattle.ref_space.proofs.Common.{tabled_at, has_field, holds_in, changed_tabled, without_tabled}
use Rattle.ref_space.proofs.Common.{on_object, less_held, changed, with_field, Entry, nat_lt, is_none}
use Rattle.ref_space.proofs.Common.{◌/◌, ◌%◌, ◌==◌, map, inl, inr, cases_Bool, eq-eqb, eqb-true}
use Rattle.ref_space.proofs.Common.{false≢true, get_or-set_other, get_or-set_same, IsSoundNaming, AreIndexed, Each}
use Rattle.ref_space.proofs.Common.{by_number, leads_by, target_by, occupant_in, occupants_of}
use Rattle.std.proofs.lemmas.List.{set_past}
use Rattle.std.proofs.Math.Seq.{map-set_same}
use Rattle.ref_space.proofs.NamingLemmas.{Keeps}
use Rattle.ref_space.proofs.NamingLemmas.{changed-named_at, held_changed, held_without, held_to, each_to, held_unnamed}
use Rattle.ref_space.proofs.NamingLemmas.{each_unnamed, named_same, map_same, without-named}
use Rattle.ref_space.specs.Tables.{is_number}
use Rattle.ref_space.specs.Tables.{RoundView}
use Rattle.ref_space.specs.Places.{IsReadIn}
use Rattle.ref_space.proofs.ReadLemmas.{read_changed, read_gone}
use Rattle.ref_space.proofs.OccupantLemmas.{vacated}
use Rattle.ref_space.proofs.Common.{Bool, EachHeld, NoneNames, has, named_slots, named_tabled, not, place_by, present}
use Rattle.ref_space.proofs.Common.{◌&&◌}
use Rattle.ref_space.specs.Tables.{without_object}
use Rattle.std.proofs.lemmas.List.{map-set}
use Rattle.std.proofs.Math.ListN.{get_or-map}
use Rattle.ref_space.proofs.FreeLemmas.{AreFree-changed, given_back, length-free, is_none-mapped, none_changed}
use Rattle.ref_space.proofs.Common.{at_place}
use Rattle.ref_space.proofs.PlaceLemmas.{tabled_at-place, tabled_by-replaced, replaced, replaced-none}
use Rattle.ref_space.proofs.PlaceLemmas.{replaced-changed, is_of-some, IsOwn, IsPlaceOf, IsPlaceOf-live}
use Rattle.ref_space.proofs.PlaceLemmas.{IsPlaceOf-lent, IsMissing, IsMissing-lent}
use Rattle.ref_space.proofs.Common.{Pages}
use Rattle.ref_space.specs.Pages.{with_given}
use Rattle.ref_space.proofs.CallLemmas.{between-with}
use Rattle.ref_space.proofs.OccupantLemmas.{numbered}
use Rattle.ref_space.specs.Moves.{Ways}
use Rattle.ref_space.proofs.Common.{is_none}
use Rattle.ref_space.proofs.RoomLemmas.{opened_with}
use Rattle.ref_space.specs.Pages.{with_given}
use Rattle.ref_space.proofs.CallLemmas.{between-with}
use Rattle.ref_space.proofs.NextPlaces.{length-with}
use Rattle.ref_space.proofs.RoomLemmas.{packed_giving}
use Rattle.ref_space.proofs.Common.{subst}
use Rattle.ref_space.proofs.FreeLemmas.{stays_then}
use Rattle.ref_space.specs.Pages.{Pages, opened, page_at, with_place, is_chosen_place}
use Rattle.ref_space.specs.Moves.{NoneLeaves}
use Rattle.ref_space.proofs.Common.{occupant_at, place_by, Pages}
use Rattle.ref_space.proofs.PlaceUses.{chosen_place-with}
use Rattle.std.proofs.lemmas.Bool.{and_parts}
use Rattle.ref_space.specs.Naming.{way_of, leads_from}
use Rattle.ref_space.specs.ColouredWords.{has_colour}
use Rattle.ref_space.proofs.WayLemmas.{IsKept, alike_kept, AreSame, alike_gone, held_named, held_leads, target-same}
use Rattle.ref_space.proofs.WayLemmas.{leads-same}
use Rattle.ref_space.proofs.NamingLemmas.{changed-named_at}
use Rattle.ref_space.specs.Pages.{Packed}

-- ---- the objects that are listed

pub length-changed_tabled : (ks : List Tabled) (n : ℕ) (f : Tabled → Tabled)
    → length (changed_tabled ks n f) ≡ length ks
length-changed_tabled [] n f = refl
length-changed_tabled (k ∷ ks) n f = grind (arith, length-changed_tabled ks n f)

pub length-without_tabled : (ks : List Tabled) (n : ℕ) (k : Tabled) → tabled_at ks n ≡ Some k
    → suc (length (without_tabled ks n)) ≡ length ks
length-without_tabled [] n k at = absurd (cc)
length-without_tabled (l ∷ ls) n k at = grind (arith, length-without_tabled ls n k)

-- a change of an object that isn't there is none
pub changed_tabled-none : (ks : List Tabled) (n : ℕ) (f : Tabled → Tabled) → tabled_at ks n ≡ None
    → changed_tabled ks n f ≡ ks
changed_tabled-none [] n f none = refl
changed_tabled-none (k ∷ ks) n f none = grind (arith, changed_tabled-none ks n f)

-- so is one hold fewer of an object that nobody holds
changed_tabled-unheld : (ks : List Tabled) (n : ℕ) → holds_in (tabled_at ks n) ≡ 0 → changed_tabled ks n less_held ≡ ks
changed_tabled-unheld [] n none = refl
changed_tabled-unheld (k ∷ ks) n none = grind (arith, changed_tabled-unheld ks n)

pub changed-unheld : (t : Table) (n : ℕ) → nat_lt 0 (holds_in (tabled_at t.tabled n)) ≡ false
    → changed t n less_held ≡ t
changed-unheld t n unheld = grind (arith, changed_tabled-unheld)

-- and a write to a field that isn't there
changed_tabled-past : (ks : List Tabled) (n i : ℕ) (value : Option ℕ) → has_field (tabled_at ks n) i ≡ false
    → changed_tabled ks n (on_object (with_field i value)) ≡ ks
changed_tabled-past [] n i value past = refl
changed_tabled-past (k ∷ ks) n i value past = grind (arith, set_past, changed_tabled-past ks n i value)

pub changed-past : (t : Table) (n i : ℕ) (value : Option ℕ) → has_field (tabled_at t.tabled n) i ≡ false
    → changed t n (on_object (with_field i value)) ≡ t
changed-past t n i value past = ap (λ ks. record t { tabled = ks }) (changed_tabled-past t.tabled n i value past)

-- ---- a change of one object

-- what a contract sees of a table, by the objects that the index leads to and those that the cells hold
abbrev pub seen_by : RoundView → Ways → ℕ → ℕ → List Tabled → List (Option ℕ) → List (Option ℕ) → Table
seen_by round ways last room ks slots occupants = record {
  tabled = map (by_number (target_by ways occupants)) ks;
  room = room;
  last = last;
  slots = map (target_by ways occupants) slots;
  ways = ways;
  occupants = occupants;
  round = round;
}

module _ {cells : List (Option Tabled)} {es : List Entry} {ways : Ways} {last : ℕ}
    (placed : IsPlaced cells es ways last) {n p : ℕ} (place : IsPlaceOf cells es n p) where
  -- the object that was found
  found_tabled : (k : Tabled) × (cell_at cells p ≡ Some k) × (k.object.no ≡ n)
  found_tabled = is_of-some (cell_at cells p) n place.own

  -- which is that of the number
  pub found_at : (k : Tabled) → cell_at cells p ≡ Some k → tabled_at (tabled_by cells es) n ≡ Some k
  found_at k is = tabled_at-place cells es n placed.rises ∙ ap (at_place cells) (IsPlaceOf-live place) ∙ is

  -- what is said of its cell is said of it
  pub told_of : {X : Type 0} (f : Option Tabled → X) {cell : Option Tabled} → cell ≡ get_or cells p cell
      → f cell ≡ f (tabled_at (tabled_by cells es) n)
  told_of f {cell} was =
      let k = found_tabled in ap f (get_or_read cells p cell place.within was None ∙ k.1 ∙ sym (found_at k.0 k.1))

  -- a write of that object's cell
  tabled_by-written : (c : Option Tabled) → IsOwn n c → tabled_by (set cells p c) es ≡ replaced (tabled_by cells es) n c
  tabled_by-written c own =
      tabled_by-replaced cells es n p c placed.rises place.listed place.within place.own own

  pub there : true ≡ is_some (tabled_at (tabled_by cells es) n)
  there = let k = found_tabled in sym (ap is_some (found_at k.0 k.1))

  -- there is an object, since that is one
  pub one_there : 0 < length (tabled_by cells es)
  one_there = grind (arith, length-without_tabled, found_at)

  pub number_there : occupant_in (cell_at cells p) ≡ Some n
  number_there = let k = found_tabled in ap occupant_in k.1 ∙ ap Some k.2

  -- its page is there
  pub page_there : p / 64 < length ways.pages.uses
  page_there = omega (arith, place.within, length-free cells placed.free)

  module _ (f : Tabled → Tabled) (keeps : (k : Tabled) → (f k).object.no ≡ k.object.no) {old new : Option Tabled}
      (was : old ≡ get_or cells p old) (is : new ≡ option_map f old) where
    pub tabled_by-changed : tabled_by (set cells p new) es ≡ changed_tabled (tabled_by cells es) n f
    tabled_by-changed = grind (arith, get_or_read, tabled_by-written, replaced-changed, found_at)

    -- the cell's object has the same number
    number-changed : occupant_in new ≡ occupant_in (cell_at cells p)
    number-changed =
        let k = found_tabled in
        ap occupant_in (is ∙ ap (option_map f) (get_or_read cells p old place.within was None ∙ k.1))
        ∙ ap Some (keeps k.0) ∙ sym (ap occupant_in k.1)

    pub occupants-changed : occupants_of (set cells p new) ≡ occupants_of cells
    occupants-changed = map-set_same occupant_in cells p new None number-changed

    module _ (round : RoundView) (slots : List (Option ℕ)) where
      abbrev name : Option ℕ → Option ℕ
      name = target_by ways (occupants_of cells)

      pub seen_changed_at : (room : ℕ) (h : Tabled → Tabled)
          → ((k : Tabled) → tabled_at (tabled_by cells es) n ≡ Some k → by_number name (f k) ≡ h (by_number name k))
          → seen_table round ways (set cells p new) es slots last room
          ≡ changed (seen_table round ways cells es slots last room) n h
      seen_changed_at room h same =
          ap (seen_by round ways last room (tabled_by (set cells p new) es) slots) occupants-changed
          ∙ ap (λ ks. seen_by round ways last room ks slots (occupants_of cells)) tabled_by-changed
          ∙ ap (λ ks. record (seen_table round ways cells es slots last room) { tabled = ks })
          (changed-named_at name f h keeps (tabled_by cells es) n same)

      pub seen_changed : (room : ℕ) (h : Tabled → Tabled) → ((k : Tabled) → by_number name (f k) ≡ h (by_number name k))
          → seen_table round ways (set cells p new) es slots last room
          ≡ changed (seen_table round ways cells es slots last room) n h
      seen_changed room h same = seen_changed_at room h (λ k at. same k)

      listed_own : (q : ℕ) (k : Tabled) → q ≡ p → cell_at (set cells p new) q ≡ Some k
          → place_in es k.object.no ≡ Some q
      listed_own q k same at =
          let m = found_tabled in
          let own : Some k.object.no ≡ Some n =
          ap occupant_in (sym at ∙ ap (λ j. cell_at (set cells p new) j) same
          ∙ get_or-set_same cells p new None place.within)
          ∙ number-changed ∙ ap occupant_in m.1 ∙ ap Some m.2 in
          let number : k.object.no ≡ n = cc in
          rw (number, same) place.listed

      -- each entry is the one of its cell's object still, and each word leads to an object
      listed_changed : AreIndexed cells es → AreIndexed (set cells p new) es
      listed_changed listed q k at =
          elim (cases_Bool (q == p)) [
            | inl own ↦ listed_own q k (eqb-true q p own) at
            | inr other ↦ listed q k
                (sym (get_or-set_other cells p q new None (λ same. false≢true (sym other ∙ eq-eqb q p same))) ∙ at)
          ]

      pub naming_changed : IsSoundNaming round ways cells es slots
          → Keeps round.number (leads_by round.good ways (occupants_of cells)) f
          → ((k : Tabled) → IsReadIn round k → IsReadIn round (f k))
          → IsSoundNaming round ways (set cells p new) es slots
      naming_changed naming holds reads = record {
        listed = listed_changed naming.listed;
        rooted = rw occupants-changed naming.rooted;
        begun = naming.begun;
        apart = naming.apart;
        led = rw (occupants-changed, tabled_by-changed)
            (held_changed round.number (leads_by round.good ways (occupants_of cells)) f holds
            (tabled_by cells es) n naming.led);
        read = read_changed round cells p place.within naming.read f reads
            (is ∙ ap (option_map f) (get_or_read cells p old place.within was None));
      }

    pub placed_changed : IsPlaced (set cells p new) es ways last
    placed_changed =
        let same : is_none new ≡ is_none (cell_at cells p) =
        ap is_none is ∙ is_none-mapped f old ∙ ap is_none (get_or_read cells p old place.within was None) in
        let free = AreFree-changed cells placed.free p new same in
        let settled : ways.tuned ≡ true → NoneLeaves (map is_none (set cells p new)) ways.pages.uses =
        λ is_tuned. none_changed cells ways.pages.uses p new same (placed.settled is_tuned) in
        grind (arith, length-set, tabled_by-changed, length-changed_tabled, is_none-mapped, get_or_read)

  module _ {new : Option Tabled} (is : new ≡ None) {less : Pages} (given : less ≡ with_given ways.pages (p / 64)
      (p % 64))
      (is_tuned : ways.tuned ≡ true) where
    stays_there : is_chosen_place ways.pages.uses p ≡ false
    stays_there =
        stays_then cells ways.pages.uses (placed.settled is_tuned) p (ap is_none found_tabled.1)

    abbrev less_ways : Ways
    less_ways = record ways { pages = less }

    same_ways : AreSame ways less_ways
    same_ways = record {
      forwards = refl;
      last = refl;
      tuned = refl;
      chosen = λ q.
          ap (λ (s : Pages). is_chosen_place s.uses q) given
          ∙ chosen_place-with ways.pages.uses (page_at ways.pages.uses p) (p % 64) true q;
    }

    pub tabled_by-freed : tabled_by (set cells p new) es ≡ without_tabled (tabled_by cells es) n
    tabled_by-freed =
        ap (λ c. tabled_by (set cells p c) es) is ∙ tabled_by-written None tt ∙ replaced-none (tabled_by cells es) n

    pub length-freed : suc (length (tabled_by (set cells p new) es)) ≡ length (tabled_by cells es)
    length-freed = grind (arith, length-without_tabled, found_at, tabled_by-freed)

    -- what names another object names it still
    module _ {round : RoundView} {slots : List (Option ℕ)} (naming : IsSoundNaming round ways cells es slots)
        (free_slots : has (present (named_slots ways cells slots)) n ≡ false)
        (free_objects : NoneNames (named_tabled ways cells es) n) where
      abbrev then : List (Option ℕ)
      then = occupants_of (set cells p new)

      -- leads to an object, and not to that
      abbrev stays : Bool → Option ℕ → Bool
      stays b v = leads_by round.good ways (occupants_of cells) b v && not (is_number (target_by ways
          (occupants_of cells) v) n)

      occupants-freed : then ≡ set (occupants_of cells) p None
      occupants-freed = ap (λ c. occupants_of (set cells p c)) is ∙ map-set occupant_in cells p None

      leads_before : (b : Bool) (v : Option ℕ) → stays b v ≡ true
          → leads_by round.good ways (occupants_of cells) b v ≡ true
      leads_before b v is_other =
          (and_parts (leads_by round.good ways (occupants_of cells) b v)
          (not (is_number (target_by ways (occupants_of cells) v) n)) is_other).0

      -- what it leads to lies where it did
      alike : (b : Bool) (v : Option ℕ) → stays b v ≡ true → (q : ℕ) → place_by v ≡ Some q
          → leads_from ways (occupants_of cells) (has_colour ways.last v) (Some q) ≡ true
          → IsKept ways (occupants_of cells) (set (occupants_of cells) p None) (has_colour ways.last v) q
      alike b v is_other q at leads =
          alike_kept ways (occupants_of cells) (set (occupants_of cells) p None) (has_colour ways.last v) q
          (alike_gone ways (occupants_of cells) p stays_there
          (has_colour ways.last v) q leads n (get_or-map occupant_in cells p None ∙ number_there)
          (ap (λ o. is_number (occupant_at (occupants_of cells) (way_of ways (occupants_of cells) o)) n) (sym at)
          ∙ not_that)) leads
        where
          not_that : is_number (target_by ways (occupants_of cells) v) n ≡ false
          not_that = grind arith

      named_still : (b : Bool) (v : Option ℕ) → stays b v ≡ true
          → target_by less_ways then v ≡ target_by ways (occupants_of cells) v
      named_still b v is_other =
          ap (λ os. target_by less_ways os v) occupants-freed
          ∙ target-same same_ways (set (occupants_of cells) p None) v
          ∙ held_named round.good ways (occupants_of cells) (set (occupants_of cells) p None) b v
          (leads_before b v is_other) (alike b v is_other)

      leads_still : (b : Bool) (v : Option ℕ) → stays b v ≡ true → leads_by round.good less_ways then b v ≡ true
      leads_still b v is_other =
          ap (λ os. leads_by round.good less_ways os b v) occupants-freed
          ∙ leads-same same_ways (set (occupants_of cells) p None) round.good b v
          ∙ held_leads round.good ways (occupants_of cells) (set (occupants_of cells) p None) b v
          (leads_before b v is_other) (alike b v is_other)

      held_still : EachHeld round.number stays (tabled_by cells es)
      held_still =
          held_unnamed (target_by ways (occupants_of cells)) n round.number (leads_by round.good ways
          (occupants_of cells)) refl
          (tabled_by cells es) naming.led free_objects

      slots_still : Each (stays true) slots
      slots_still =
          each_unnamed (target_by ways (occupants_of cells)) n (leads_by round.good ways
          (occupants_of cells) true) slots
          naming.rooted free_slots

      pub seen_freed : (room : ℕ)
          → seen_table round less_ways (set cells p new) es slots last room
          ≡ without_object (seen_table round ways cells es slots last room) n
      seen_freed room =
          ap (λ ks. seen_by round less_ways last room ks slots then) tabled_by-freed
          ∙ (λ i. record {
            tabled = (named_same round.number stays (target_by less_ways then) (target_by ways
                (occupants_of cells)) named_still
                (without_tabled (tabled_by cells es) n) (held_without round.number stays
                (tabled_by cells es) n held_still)
                ∙ without-named (target_by ways (occupants_of cells)) (tabled_by cells es) n) i;
            room = room;
            last = last;
            slots = map_same round.number stays (target_by less_ways then) (target_by ways
                (occupants_of cells)) named_still true slots
                slots_still i;
            ways = (ap (λ ps. record ways { pages = ps }) given
                ∙ ap (λ q. record ways { pages = with_given ways.pages (q / 64) (q % 64) })
                (sym (numbered cells es n p naming.listed place.listed number_there))) i;
            occupants = (occupants-freed ∙ sym (vacated cells es n p naming.listed place.listed number_there)) i;
            round = round;
          })

      listed_freed : AreIndexed (set cells p new) es
      listed_freed q k at =
          elim (cases_Bool (q == p)) [
            | inl own ↦
                let same : q ≡ p = eqb-true q p own in
                let free : cell_at (set cells p new) q ≡ None =
                ap (λ j. cell_at (set cells p new) j) same ∙ get_or-set_same cells p new None place.within ∙ is in
                absurd (cc)
            | inr other ↦
                naming.listed q k
                (sym (get_or-set_other cells p q new None (λ same. false≢true (sym other ∙ eq-eqb q p same))) ∙ at)
          ]

      pub naming_freed : IsSoundNaming round less_ways (set cells p new) es slots
      naming_freed = record {
        listed = listed_freed;
        begun = naming.begun;
        apart = λ q chosen same. naming.apart q (sym (same_ways.chosen q) ∙ chosen) same;
        rooted = each_to round.number stays (leads_by round.good less_ways then) leads_still true slots slots_still;
        led = rw tabled_by-freed
            (held_without round.number (leads_by round.good less_ways then) (tabled_by cells es) n
            (held_to round.number stays (leads_by round.good less_ways then) leads_still
            (tabled_by cells es) held_still));
        read = read_gone round cells p place.within naming.read is;
      }

    pub given_size : length less.uses ≡ length ways.pages.uses
    given_size =
        ap (λ (s : Pages). length s.uses) given
        ∙ length-with ways.pages.uses (page_at ways.pages.uses p) (p % 64) true

    pub given_packed : (c : ℕ) → Packed c (opened ways.pages.uses) → Packed c (opened less.uses)
    given_packed c packed =
        subst (λ (s : Pages). Packed c (opened s.uses)) (sym given)
        (packed_giving c ways.pages.uses (page_at ways.pages.uses p) (p % 64) packed)

    pub given_pages : length (opened less.uses) ≡ length (opened ways.pages.uses)
    given_pages =
        ap (λ (s : Pages). length (opened s.uses)) given
        ∙ opened_with ways.pages.uses (page_at ways.pages.uses p) (p % 64) true

    uses : less.uses ≡ with_place ways.pages.uses p true
    uses = ap (λ (s : Pages). s.uses) given

    pub placed_freed : IsPlaced (set cells p new) es (record ways { pages = less }) last
    placed_freed =
        let back = given_back cells placed.free (placed.settled is_tuned) p stays_there
        (ap is_none found_tabled.1) place.within in
        let rising = between-with ways.pages.uses (page_at ways.pages.uses p)
        (p % 64) true 1 ways.pages.next placed.rising in
        let next : less.next ≡ ways.pages.next = ap (λ (s : Pages). s.next) given in
        grind (arith, length-set, length-freed, back, uses, rising, next)

module _ {cells : List (Option Tabled)} {es : List Entry} {ways : Ways} {last : ℕ}
    (placed : IsPlaced cells es ways last) {n : ℕ} (missing : IsMissing cells es n) where
  -- a number that has no place has no object
  pub missing_at : tabled_at (tabled_by cells es) n ≡ None
  missing_at = tabled_at-place cells es n placed.rises ∙ ap (at_place cells) missing.none

  -- what is said of no object is said of it
  pub told_of_none : {X : Type 0} (f : Option Tabled → X) → f None ≡ f (tabled_at (tabled_by cells es) n)
  told_of_none f = sym (ap f missing_at)

-- a search finds a place exactly where there is an object
pub found_where_there : {cells borrowed : List (Option Tabled)} {es lent : List Entry} {ways : Ways} {last : ℕ}
    (n : ℕ) (place : Option ℕ) → IsPlaced cells es ways last → borrowed ≡ cells → lent ≡ es
    → place ≡ place_if_live borrowed (place_in lent n) n → is_some place ≡ is_some (tabled_at (tabled_by cells es) n)
found_where_there n None placed same_cells same_index is =
    told_of_none placed (IsMissing-lent n same_cells same_index is) is_some
found_where_there n (Some p) placed same_cells same_index is = there placed (IsPlaceOf-lent n same_cells same_index is)
