-- Which places are vacant, as one is taken or given back.
use Rattle.std.proofs.Common.{arith, ◌≡◌, ◌<◌, ◌≤◌, ◌∷◌, ◌++◌, [], refl, sym, subst, ap, ◌∙◌, ℕ, true, false}
use Rattle.std.proofs.Common.{List, Some, None, length, zero, suc, is_some, nat_lt, ◌||◌, nat_eq}
use Rattle.std.proofs.lemmas.Bool.{cases_eq, eq-eqb, eqb-true, ltb-true}
use Rattle.std.proofs.lemmas.Bool.Decides.{nat_tests}
use Rattle.std.proofs.lemmas.List.{get_or-set_same, get_or-set_other, length-set}
use Rattle.std.proofs.lemmas.List.{get_or_default}
use Rattle.std.proofs.lemmas.Map.Steps.{length-le_from_distinct_below}
use Rattle.std.proofs.Math.ListN.{get_or-eq_default}
use Rattle.std.specs.List.{AllByRecursion, IsDistinct}
use Rattle.std.proofs.lemmas.Map.Keys.{IsDistinct-cons}
use Rattle.ref_base.proofs.LegalQueues.{distinct_nil}
use Rattle.std.specs.Prelude.{slice_set, slice_index_or}
use Rattle.ref_base.proofs.HasLaws.{has-append, has-list_any}
use Rattle.ref_base.specs.Members.{AreDistinct, has}
use Rattle.ref_process.specs.Places.{AreVacant, any_vacancy, is_vacancy, is_new_key, new_place, place_at}
use Rattle.ref_process.specs.Places.{reference_under, with_new}
use Rattle.ref_process.specs.declared.key.Key.{Key}
use Rattle.ref_process.specs.declared.place.Place.{Place}
use Rattle.ref_process.specs.declared.place.Reference.{Reference}

-- ---- whether there is a vacant place

pub any_by : (ps : List Place) (n : ℕ) → is_vacancy ps n ≡ true → any_vacancy ps ≡ true
any_by [] n is = grind (arith, nat_tests)
any_by (p ∷ ps) zero is = grind (arith, nat_tests, cases_eq)
any_by (p ∷ ps) (suc n) is = grind (arith, nat_tests, cases_eq, any_by ps n)

pub none_by : (ps : List Place) → ((n : ℕ) → is_vacancy ps n ≡ false) → any_vacancy ps ≡ false
none_by [] none = refl
none_by (p ∷ ps) none =
    let first : is_vacancy (p ∷ ps) 0 ≡ false = none 0 in
    let rest : any_vacancy ps ≡ false =
    none_by ps
    (λ n. let next : is_vacancy (p ∷ ps) (suc n) ≡ false = none (suc n) in grind (arith, nat_tests, cases_eq)) in
    grind (arith, nat_tests, cases_eq)

-- ---- lists with one more

pub distinct_front : (ns : List ℕ) (n : ℕ) → AreDistinct (ns ++ n ∷ []) → AreDistinct ns × (has ns n ≡ false)
distinct_front [] n once = (grind arith, refl)
distinct_front (m ∷ ms) n once = (
  (grind (arith, cases_eq, has-append ms (n ∷ []) m), (distinct_front ms n once.1).0),
  grind (arith, cases_eq, eqb-true, has-append ms (n ∷ []) m, (distinct_front ms n once.1).1),
)

pub distinct_last : (ns : List ℕ) (n : ℕ) → AreDistinct ns → has ns n ≡ false → AreDistinct (ns ++ n ∷ [])
distinct_last [] n once is_not = grind arith
distinct_last (m ∷ ms) n once is_not =
    (grind (arith, cases_eq, eqb-true, has-append ms (n ∷ []) m), distinct_last ms n once.1 (grind (arith, cases_eq)))

-- numbers of which none stands twice, as std says it
pub apart_by : (ns : List ℕ) (n : ℕ) → has ns n ≡ false → AllByRecursion (λ m. nat_eq n m ≡ false) ns
apart_by [] n is_not = grind arith
apart_by (m ∷ ms) n is_not = (grind (arith, nat_tests, cases_eq), apart_by ms n (grind (arith, cases_eq)))

pub as_distinct : (ns : List ℕ) → AreDistinct ns → IsDistinct nat_eq ns
as_distinct [] once = distinct_nil
as_distinct (n ∷ ns) once = IsDistinct-cons nat_eq n ns (apart_by ns n once.0) (as_distinct ns once.1)

-- the place of a key that has a reference holds it, in this round
pub held_now : (ps : List Place) (k : Key) → is_some (reference_under ps k) ≡ true
    → (is_some (place_at ps k.place).held ≡ true) × ((place_at ps k.place).round ≡ k.round)
held_now ps k is = (grind (arith, cases_eq), grind (arith, cases_eq, eqb-true))

module _ (ps : List Place) (ns : List ℕ) (vacant : AreVacant ps ns) where
  -- what is vacant is there
  pub listed_there : (n : ℕ) → has ns n ≡ true → n < length ps
  listed_there n among = grind (arith, cases_eq, ltb-true, vacant.all n)

  -- a place that holds something is not among the vacant
  pub held_apart : (n : ℕ) → is_some (place_at ps n).held ≡ true → has ns n ≡ false
  held_apart n held = grind (arith, cases_eq, vacant.all n)

  pub held_there : (n : ℕ) → is_some (place_at ps n).held ≡ true → n < length ps
  held_there n held = grind (arith, get_or-eq_default ps new_place)

  -- fewer are vacant than there are places, where one holds something
  pub fewer : (n : ℕ) → is_some (place_at ps n).held ≡ true → length ns < length ps
  fewer n held =
      let all : length (n ∷ ns) ≤ length ps =
      length-le_from_distinct_below (n ∷ ns) (length ps) (as_distinct (n ∷ ns) (held_apart n held, vacant.once))
      (λ q among. let is : has (n ∷ ns) q ≡ true = has-list_any (n ∷ ns) q ∙ among in
      grind (arith, cases_eq, eqb-true, held_there n held, listed_there q)) in
      omega arith

  -- a place that held something is vacant in its next round, unless that is the last
  pub buried_vacant : (n : ℕ) (q : Place) → is_some (place_at ps n).held ≡ true → q.held ≡ None → q.round < 4294967295
      → AreVacant (slice_set ps n q) (ns ++ n ∷ [])
  buried_vacant n q held holds_not below =
      let there : n < length ps = held_there n held in
      let apart : has ns n ≡ false = held_apart n held in
      record {
        all = λ m.
            grind (
              arith,
              nat_tests,
              cases_eq,
              vacant.all m,
              has-append ns (n ∷ []) m,
              get_or-set_same,
              get_or-set_other,
              length-set,
            );
        once = distinct_last ns n vacant.once apart;
        rounds = λ m is. grind (arith, cases_eq, vacant.rounds m, get_or-set_same, get_or-set_other);
      }

  pub buried_after : (after : List ℕ) (n : ℕ) (q : Place) → is_some (place_at ps n).held ≡ true → q.held ≡ None
      → q.round < 4294967295 → after ≡ ns ++ n ∷ [] → AreVacant (slice_set ps n q) after
  buried_after after n q held holds_not below is =
      subst (AreVacant (slice_set ps n q)) (sym is) (buried_vacant n q held holds_not below)

-- the last of the vacant, and those in front
pub last_vacant : (ps : List Place) (ns : List ℕ) (n : ℕ) → AreVacant ps (ns ++ n ∷ [])
    → (is_vacancy ps n ≡ true) × (has ns n ≡ false)
last_vacant ps ns n vacant = (
  grind (arith, cases_eq, vacant.all n, has-append ns (n ∷ []) n, eq-eqb),
  (distinct_front ns n vacant.once).1,
)

-- the last of the vacant is taken
pub taken_vacant : (ps : List Place) (ns : List ℕ) (n : ℕ) (q : Place) → AreVacant ps (ns ++ n ∷ [])
    → is_some q.held ≡ true → q.round ≡ (place_at ps n).round → AreVacant (slice_set ps n q) ns
taken_vacant ps ns n q vacant holds same =
    let last : is_vacancy ps n ≡ true = (last_vacant ps ns n vacant).0 in
    let apart : has ns n ≡ false = (last_vacant ps ns n vacant).1 in
    record {
      all = λ m.
          grind (
            arith,
            nat_tests,
            cases_eq,
            vacant.all m,
            has-append ns (n ∷ []) m,
            get_or-set_same,
            get_or-set_other,
            length-set,
          );
      once = (distinct_front ns n vacant.once).0;
      rounds = λ m is. grind (arith, nat_tests, cases_eq, vacant.rounds m, get_or-set_same, get_or-set_other);
    }

-- what the list of vacant places tells of whether there is one
pub none_where : (ps : List Place) (ns : List ℕ) → AreVacant ps ns → length ns ≡ 0 → any_vacancy ps ≡ false
none_where ps [] vacant none = none_by ps (λ n. sym (vacant.all n))
none_where ps (n ∷ ns) vacant none = absurd (omega (arith, none))

pub any_where : (ps : List Place) (ns : List ℕ) → AreVacant ps ns → 0 < length ns → any_vacancy ps ≡ true
any_where ps [] vacant some = absurd (omega (arith, some))
any_where ps (n ∷ ns) vacant some = any_by ps n (grind (arith, cases_eq, eq-eqb, vacant.all n))

module _ (ps : List Place) (before ns : List ℕ) (n : ℕ) (vacant : AreVacant ps before)
    (is : before ≡ ns ++ n ∷ []) where
  -- the last of the vacant, where it is taken out
  pub taken_is : is_vacancy ps n ≡ true
  taken_is = (last_vacant ps ns n (subst (AreVacant ps) is vacant)).0

  pub taken_there : n < length ps
  taken_there = let last : is_vacancy ps n ≡ true = taken_is in grind (arith, nat_tests, cases_eq)

  -- what is read there has the round of the place
  pub taken_round : (p : Place) → p ≡ slice_index_or ps n p → p.round ≡ (place_at ps n).round
  taken_round p read = ap (λ (q : Place). q.round) (read ∙ get_or_default ps n p new_place taken_there)

  pub taken_after : (q : Place) → is_some q.held ≡ true → q.round ≡ (place_at ps n).round
      → AreVacant (slice_set ps n q) ns
  taken_after q holds same = taken_vacant ps ns n q (subst (AreVacant ps) is vacant) holds same

  pub taken_key : (round : ℕ) → round ≡ (place_at ps n).round
      → is_new_key ps (record { place = n; round = round }) ≡ true
  taken_key round same =
      let last : is_vacancy ps n ≡ true = taken_is in
      let any : any_vacancy ps ≡ true = any_by ps n last in
      grind (arith, nat_tests, cases_eq, eq-eqb)

  pub taken_new : (round : ℕ) (r : Reference)
      → slice_set ps n (record { round = round; held = Some r })
      ≡ with_new ps (record { place = n; round = round }) r
  taken_new round r = let there : n < length ps = taken_there in grind (arith, nat_tests, cases_eq)

module _ (ps : List Place) (ns : List ℕ) (vacant : AreVacant ps ns) (none : length ns ≡ 0) where
  -- and where none is vacant, and the places are not full
  pub few : any_vacancy ps || nat_lt (length ps) 4294967295 ≡ true → length ps < 4294967295
  few is = let no : any_vacancy ps ≡ false = none_where ps ns vacant none in grind (arith, nat_tests, cases_eq)

  pub more_key : is_new_key ps (record { place = length ps; round = 0 }) ≡ true
  more_key =
      let no : any_vacancy ps ≡ false = none_where ps ns vacant none in grind (arith, nat_tests, cases_eq, eq-eqb)
