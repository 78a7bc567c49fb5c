-- Keys that were given: their references live, or are dead.
use Rattle.std.proofs.Common.{arith, ◌≡◌, ◌∷◌, ◌++◌, [], refl, ap₂, ℕ, Bool, true, List}
use Rattle.std.proofs.Common.{Option, Some, None, is_some, nat_lt, ◌==◌, ◌&&◌, ◌||◌}
use Rattle.std.proofs.lemmas.Bool.{cases_eq, eqb-true, eq-eqb}
use Rattle.std.proofs.lemmas.Bool.Decides.{nat_tests}
use Rattle.ref_process.proofs.PlaceRounds.{Onward, same, changed, dead, made, moved, EachOnward, new_here, under_held}
use Rattle.ref_process.proofs.PlaceRounds.{under_round}
use Rattle.ref_process.specs.Places.{place_at, reference_under, is_new_key, with_new}
use Rattle.ref_process.specs.RowTallies.{same_key}
use Rattle.ref_process.specs.declared.key.Key.{Key}
use Rattle.ref_process.specs.declared.place.Place.{Place}
use Rattle.ref_process.specs.declared.place.Reference.{Reference}

-- a key of this place and round was given
abbrev pub known_in : Place → ℕ → Bool
known_in p round = nat_lt round p.round || ((p.round == round) && is_some p.held)

abbrev pub is_known : List Place → Key → Bool
is_known ps k = known_in (place_at ps k.place) k.round

pub known_onward : (still : Bool) (p q : Place) → Onward still p q → (round : ℕ) → known_in p round ≡ true
    → known_in q round ≡ true
known_onward still p q (same is) round known = grind (arith, is)
known_onward still p q (changed r s was is rounds goes) round known =
    grind (arith, nat_tests, cases_eq, was, is, rounds)
known_onward still p q (dead empty rounds) round known = grind (arith, nat_tests, cases_eq, rounds)
known_onward still p q (made s was is rounds untold) round known =
    grind (arith, nat_tests, cases_eq, was, is, rounds)
known_onward still p q (moved r s was is rounds queue told moves) round known =
    grind (arith, nat_tests, cases_eq, was, is, rounds)

pub each_known : (still : Bool) (ps qs : List Place) → EachOnward still ps qs → (k : Key) → is_known ps k ≡ true
    → is_known qs k ≡ true
each_known still ps qs onward k known =
    known_onward still (place_at ps k.place) (place_at qs k.place) (onward k.place) k.round known

pub there_known : (ps : List Place) (k : Key) (o : Option Reference) → reference_under ps k ≡ o → is_some o ≡ true
    → is_known ps k ≡ true
there_known ps k None is there = absurd (grind (arith, there))
there_known ps k (Some r) is there =
    grind (arith, nat_tests, cases_eq, eq-eqb, under_held ps k r is, under_round ps k r is)

pub new_known : (ps : List Place) (k : Key) → is_new_key ps k ≡ true → (s : Reference)
    → is_known (with_new ps k s) k ≡ true
new_known ps k new s = grind (arith, nat_tests, cases_eq, eq-eqb, new_here ps k new s)

pub key_is : (k j : Key) → same_key k j ≡ true → k ≡ j
key_is k j is =
    let places : k.place ≡ j.place = grind (arith, cases_eq, eqb-true) in
    let rounds : k.round ≡ j.round = grind (arith, cases_eq, eqb-true) in
    ap₂ (λ (a b : ℕ). let key : Key = record { place = a; round = b } in key) places rounds

-- ---- lists of keys

-- each of these passes the test
abbrev pub all_keys : (Key → Bool) → List Key → Bool
all_keys test [] = true
all_keys test (k ∷ ks) = test k && all_keys test ks

pub all_both : (test : Key → Bool) (js ks : List Key) → all_keys test js ≡ true → all_keys test ks ≡ true
    → all_keys test (js ++ ks) ≡ true
all_both test [] ks first next = next
all_both test (j ∷ js) ks first next =
    grind (arith, cases_eq, all_both test js ks)

pub all_more : (test more : Key → Bool) → ((k : Key) → test k ≡ true → more k ≡ true) → (ks : List Key)
    → all_keys test ks ≡ true → all_keys more ks ≡ true
all_more test more wider [] all = refl
all_more test more wider (k ∷ ks) all = grind (arith, cases_eq, wider k, all_more test more wider ks)

pub all_first : (test : Key → Bool) (k : Key) (ks : List Key) → all_keys test (k ∷ ks) ≡ true → test k ≡ true
all_first test k ks all = grind (arith, cases_eq)

pub all_rest : (test : Key → Bool) (k : Key) (ks : List Key) → all_keys test (k ∷ ks) ≡ true → all_keys test ks ≡ true
all_rest test k ks all = grind (arith, cases_eq)
