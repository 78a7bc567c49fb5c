-- What holds of every table, and of a new one.
use Rattle.ref_space.proofs.Common.{◌≡◌, ℕ, ◌<◌, ◌≤◌, ◌^◌, ◌∙◌, ◌*◌, ap, List, [], ◌∷◌, length, replicate, Option}
use Rattle.ref_space.proofs.Common.{Some, None, arith, length-replicate, numbers, IsRising, cell_at, before}
use Rattle.ref_space.proofs.Common.{tabled_by, seen_table, AllAbove, NoneAbove, Rises, IsSoundTable, Tabled}
use Rattle.ref_space.proofs.Common.{objects_of, AllUpTo, IsOrderlyTable, Entry}
use Rattle.ref_space.proofs.Common.{by_number, target_by, occupants_of, map, length-map, refl}
use Rattle.ref_space.proofs.Common.{Each, IsSoundNaming, leads_by, occupant_in, place_by, zero, suc, Bool, true}
use Rattle.ref_space.proofs.Common.{◌+◌, ◌/◌, ◌%◌}
use Rattle.ref_space.specs.Tables.{empty_table}
use Rattle.ref_space.specs.ColouredWords.{IsCell}
use Rattle.ref_space.specs.declared.colour.Colour.TheVariants.{R}
use Rattle.ref_space.specs.Tables.{RoundView}
use Rattle.ref_space.specs.declared.colour.Colour.{Colour}
use Rattle.ref_space.proofs.WordLemmas.{place_by-word}
use Rattle.ref_space.proofs.RoomLemmas.{fresh_taken}
use Rattle.ref_space.proofs.FreeLemmas.{AreFree-fresh}
use Rattle.ref_space.proofs.NamingLemmas.{dated}
use Rattle.ref_space.specs.ColouredWords.{word_of_place}
use Rattle.ref_space.proofs.Common.{Pages}
use Rattle.ref_space.specs.Pages.{new_pages}
use Rattle.ref_space.proofs.CallLemmas.{between-fresh}
use Rattle.ref_space.proofs.Common.{is_none}
use Rattle.ref_space.specs.declared.colour.Colour.TheVariants.{A}
use Rattle.ref_space.proofs.PageLemmas.{length-fresh}
use Rattle.ref_space.proofs.MoveLemmas.{chosen-fresh, opened_all}
use Rattle.ref_space.specs.Pages.{Pages, fresh_pages, taken_of}
use Rattle.ref_space.specs.Moves.{Ways, AreFree, first_ways, ways_of}
use Rattle.ref_space.proofs.Common.{subst}
use Rattle.ref_space.proofs.Common.{sym}
use Rattle.ref_space.proofs.FreeLemmas.{none_leaves}
use Rattle.ref_space.proofs.RoomLemmas.{packed_fresh}
use Rattle.ref_space.proofs.FreeLemmas.{none_chosen_fresh}
use Rattle.ref_space.specs.Pages.{page_at, is_chosen_place}
use Rattle.std.proofs.lemmas.Bool.{true≢false}

-- ---- numbers that rise

-- every number is above n
abbrev AllOver : ℕ → List Tabled → Type 0
AllOver n [] = Unit {0}
AllOver n (k ∷ ks) = (n < k.object.no) × AllOver n ks

AllOver-before : (n m : ℕ) (c : Option Tabled) (ks : List Tabled) → n < m → AllOver n ks → AllOver n (before c m ks)
AllOver-before n m None ks over all = all
AllOver-before n m (Some k) ks over all = grind arith

AllOver-tabled_by : (cells : List (Option Tabled)) (es : List Entry) (n : ℕ) → AllAbove n es
    → AllOver n (tabled_by cells es)
AllOver-tabled_by cells [] n above = tt
AllOver-tabled_by cells (e ∷ es) n above =
    AllOver-before n e.no (cell_at cells e.place) (tabled_by cells es) above.0 (AllOver-tabled_by cells es n above.1)

IsRising-cons : (k : Tabled) (ks : List Tabled) → AllOver k.object.no ks → IsRising (numbers (objects_of ks))
    → IsRising (numbers (objects_of (k ∷ ks)))
IsRising-cons k [] over rising = tt
IsRising-cons k (l ∷ ls) over rising = (over.0, rising)

IsRising-before : (c : Option Tabled) (n : ℕ) (ks : List Tabled) → AllOver n ks → IsRising (numbers (objects_of ks))
    → IsRising (numbers (objects_of (before c n ks)))
IsRising-before None n ks over rising = rising
IsRising-before (Some k) n ks over rising = grind (arith, IsRising-cons)

IsRising-tabled_by : (cells : List (Option Tabled)) (es : List Entry) → Rises es
    → IsRising (numbers (objects_of (tabled_by cells es)))
IsRising-tabled_by cells [] rises = tt
IsRising-tabled_by cells (e ∷ es) rises =
    search (IsRising-before, IsRising-tabled_by cells es rises.1, AllOver-tabled_by cells es e.no rises.0)

AllUpTo-before : (last : ℕ) (c : Option Tabled) (n : ℕ) (ks : List Tabled) → n ≤ last
    → AllUpTo last (numbers (objects_of ks)) → AllUpTo last (numbers (objects_of (before c n ks)))
AllUpTo-before last None n ks order all = all
AllUpTo-before last (Some k) n ks order all = grind arith

AllUpTo-tabled_by : (cells : List (Option Tabled)) (es : List Entry) (last : ℕ) → NoneAbove last es
    → AllUpTo last (numbers (objects_of (tabled_by cells es)))
AllUpTo-tabled_by cells [] last given = tt
AllUpTo-tabled_by cells (e ∷ es) last given = search (AllUpTo-before, AllUpTo-tabled_by cells es last given.1)

-- names leave the numbers
numbers-named : (name : Option ℕ → Option ℕ) (ks : List Tabled)
    → numbers (objects_of (map (by_number name) ks)) ≡ numbers (objects_of ks)
numbers-named name [] = refl
numbers-named name (k ∷ ks) = ap (λ ns. k.object.no ∷ ns) (numbers-named name ks)

pub orderly : {round : RoundView} {cells : List (Option Tabled)} {es : List Entry} {ways : Ways}
    (slots : List (Option ℕ))
    {last room count index_room marked : ℕ} → IsSoundTable round cells es ways last room count index_room marked
    → IsSoundNaming round ways cells es slots → IsOrderlyTable (seen_table round ways cells es slots last room)
orderly {round} {cells} {es} {ways} slots {last} {room} sound naming =
    let name = target_by ways (occupants_of cells) in
    let numbers = numbers-named name (tabled_by cells es) in
    record {
      rising = rw numbers (IsRising-tabled_by cells es sound.placed.rises);
      given = rw numbers (AllUpTo-tabled_by cells es last sound.placed.given);
      few = omega (arith, length-map (tabled_by cells es) (by_number name), sound.counted, sound.within);
      begun = naming.begun;
      dated = dated round.number (leads_by round.good ways (occupants_of cells)) name (tabled_by cells es) naming.led;
    }

-- ---- addresses

-- each cell has a word
pub has_word : {size : ℕ} → size ≤ 2 ^ 17 → (place : ℕ) → place < size → IsCell (1 + place / 64) (place % 64)
has_word small place within = (omega arith, omega (arith, small, within), omega arith)

pub word_place : (colour : Colour) (place : ℕ) → IsCell (1 + place / 64) (place % 64)
    → place_by (word_of_place colour place) ≡ Some place
word_place colour place at =
    let same : 64 * (place / 64) + place % 64 ≡ place = omega arith in
    place_by-word colour (place / 64) (place % 64) at ∙ ap Some same

-- ---- a new table

pub ways_new : (first count : ℕ) {pages : Pages} {forwards : List ℕ} → pages ≡ new_pages first count
    → forwards ≡ replicate (64 * count) 0 → ways_of pages forwards A true ≡ first_ways first count
ways_new first count {pages} {forwards} are none = rw (are, none) refl

pub sound_new : {round : RoundView} {cells : List (Option Tabled)} {es : List Entry} {ways : Ways}
    (first count room index_room : ℕ)
    → count ≡ 2 * ((room + 63) / 64) → 64 * count ≤ 2 ^ 17 → 64 * count ≤ index_room
    → cells ≡ replicate (64 * count) None
    → es ≡ [] → 1 ≤ first → first + count ≤ 2 ^ 32 → ways ≡ first_ways first count
    → IsSoundTable round cells es ways 0 room 0 index_room 0
sound_new {round} {cells} {es} {ways} first count room index_room twice small index_fits are none begins addresses new =
    let size : length cells ≡ 64 * count = ap length are ∙ length-replicate (64 * count) None in
    let rising = between-fresh 1 first 0 count begins in
    let open_all = opened_all (fresh_pages first 0 count) (chosen-fresh first 0 count) in
    let free : AreFree (map is_none cells) (replicate (64 * count) 0) (fresh_pages first 0 count) =
    subst (λ cs. AreFree (map is_none cs) (replicate (64 * count) 0) (fresh_pages first 0 count)) (sym are)
    (AreFree-fresh first count) in
    rw (new, none)
    (record {
      placed = record {
        rises = tt;
        given = tt;
        free = free;
        settled = λ is_tuned. none_leaves (map is_none cells) first count;
        taken = ap taken_of open_all ∙ fresh_taken first 0 count;
        rising = rising;
        addressed = addresses;
        small = omega (arith, size, small);
        few = omega (arith);
      };
      cells_fit = omega (arith, size, twice);
      open_fit = (let open_count = ap length open_all ∙ length-fresh first 0 count in omega (arith, open_count, twice));
      twice = length-fresh first 0 count ∙ twice;
      packed = packed_fresh ((room + 63) / 64) first 0 count;
      counted = refl;
      within = omega arith;
      index_fits = omega (arith, size, index_fits);
      marks_counted = refl;
    })

none_taken : (n p : ℕ) → cell_at (replicate n None) p ≡ None
none_taken zero p = refl
none_taken (suc n) zero = refl
none_taken (suc n) (suc p) = none_taken n p

pub all_null : (p : Option ℕ → Bool) → p None ≡ true → (n : ℕ) → Each p (replicate n None)
all_null p null zero = tt
all_null p null (suc n) = (null, all_null p null n)

pub naming_new : {round : RoundView} {cells : List (Option Tabled)} {es : List Entry} {slots : List (Option ℕ)}
    {ways : Ways} (count n : ℕ)
    → 1 ≤ round.number → cells ≡ replicate (64 * count) None → es ≡ []
    → slots ≡ replicate n None → (first : ℕ) → ways ≡ first_ways first count
    → IsSoundNaming round ways cells es slots
naming_new {round} {cells} {es} {slots} {ways} count n begun are none nulls first new =
    record {
      begun = begun;
      apart = λ place chosen same.
          let open_all = none_chosen_fresh first 0 count (page_at (fresh_pages first 0 count) place) in
          true≢false (sym chosen ∙ ap (λ (s : Ways). is_chosen_place s.pages.uses place) new ∙ open_all);
      listed = λ p k at.
          let free : cell_at cells p ≡ None = ap (λ cs. cell_at cs p) are ∙ none_taken (64 * count) p in absurd (cc);
      rooted = rw nulls (all_null (leads_by round.good ways (occupants_of cells) true) refl n);
      led = rw none tt;
      read = λ p k at.
          let free : cell_at cells p ≡ None = ap (λ cs. cell_at cs p) are ∙ none_taken (64 * count) p in absurd (cc);
    }

pub map-nulls : {X : Type 0} (f : X → Option ℕ) (x : X) → f x ≡ None → (n : ℕ)
    → map f (replicate n x) ≡ replicate n None
map-nulls f x is zero = refl
map-nulls f x is (suc n) = ap (λ v. v ∷ map f (replicate n x)) is ∙ ap (λ vs. None ∷ vs) (map-nulls f x is n)

pub seen_new : {round : RoundView} {cells : List (Option Tabled)} {es : List Entry} {slots : List (Option ℕ)}
    {ways : Ways} → round ≡ record { number = 1; good = R; read = None } → (first count n room : ℕ) → count ≡ 2 *
    ((room + 63) / 64) → ways ≡ first_ways first count
    → cells ≡ replicate (64 * count) None → es ≡ [] → slots ≡ replicate n None
    → seen_table round ways cells es slots 0 room ≡ empty_table room n first
seen_new {round} {cells} {es} {slots} {ways} begun first count n room fills new are none nulls =
    let occupants = ap occupants_of are ∙ map-nulls occupant_in None refl (64 * count)
    ∙ ap (λ m. replicate (64 * m) None) fills in
    let held = ap (map (target_by ways (occupants_of cells))) nulls
    ∙ map-nulls (target_by ways (occupants_of cells)) None refl n in
    rw none (λ i. record {
      tabled = [];
      room = room;
      last = 0;
      slots = held i;
      ways = (new ∙ ap (first_ways first) fills) i;
      occupants = occupants i;
      round = begun i;
    })
