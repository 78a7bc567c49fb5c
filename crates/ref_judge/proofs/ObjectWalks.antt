-- A walk over a heap's objects, from each to the next one by number.
use Rattle.std.proofs.Common.{arith, ◌≡◌, ℕ, ◌+◌, ◌^◌, ◌<◌, ◌≤◌, ◌==◌, ◌||◌, nat_lt, nat_le, Bool, true, false}
use Rattle.std.proofs.Common.{if◌then◌else◌}
use Rattle.std.proofs.Common.{List, [], ◌∷◌, map, Option, Some, None, refl, ap, ◌∙◌, sym, inl, inr}
use Rattle.std.specs.List.{list_all}
use Rattle.ref_base.proofs.Common.{has, numbers, Object, IsRising, false≢true, changed_at, cases_Bool, or_cases}
use Rattle.ref_base.proofs.Common.{eqb-true, subst}
use Rattle.ref_base.proofs.Common.{object_at, is_some}
use Rattle.ref_base.proofs.Lookups.{is_there-has}
use Rattle.ref_base.proofs.HasLaws.{has-first}
use Rattle.ref_base.proofs.RisingLists.{rising-above, rising-tail}
use Rattle.ref_objects.specs.Grounds.{least_from}
use Rattle.ref_judge.specs.MarkEnding.{is_passed, IsNextOf, to_walk}

-- ---- what a walk has passed

-- it begins at the least: it has passed none
pub none_passed : (ns : List ℕ) (n : ℕ) → IsRising ns → has ns n ≡ true → is_passed (least_from ns 0) n ≡ false
none_passed [] n rising h = absurd (false≢true h)
none_passed (m ∷ ns) n rising h = grind (arith, rising-above m ns rising n)

-- what comes next is one of the numbers, from here on
pub next_is : (ns : List ℕ) (k : ℕ) → IsNextOf ns (least_from ns k)
next_is [] k = tt
next_is (m ∷ ns) k =
    elim (cases_Bool (nat_le k m)) [
      | inl here ↦ simp here (has-first m ns)
      | inr before ↦ simp before (behind (least_from ns k) (next_is ns k))
    ]
  where
    behind : (next : Option ℕ) → IsNextOf ns next → IsNextOf (m ∷ ns) next
    behind None is = tt
    behind (Some n) is = grind arith

below_passed : (ns : List ℕ) (k n : ℕ) → n < k → is_passed (least_from ns k) n ≡ true
below_passed [] k n below = refl
below_passed (m ∷ ns) k n below = grind (arith, below_passed ns k n)

not_before : (n m k : ℕ) → m ≤ n → nat_le (k + 1) m ≡ true → nat_lt n m ≡ (nat_lt n k || k == n)
not_before n m k least above = grind arith

-- then one more is passed
pub one_passed : (ns : List ℕ) (k n : ℕ) → IsRising ns → has ns n ≡ true
    → is_passed (least_from ns (k + 1)) n ≡ (nat_lt n k || k == n)
one_passed [] k n rising h = absurd (false≢true h)
one_passed (m ∷ ns) k n rising h =
    elim (cases_Bool (nat_le (k + 1) m)) [
      | inl above ↦ simp above (elim (or_cases (m == n) (has ns n) h) [
        | inl same ↦ not_before n m k (omega (arith, eqb-true m n same)) above
        | inr later ↦ not_before n m k (omega (arith, rising-above m ns rising n later)) above
      ])
      | inr below ↦ simp below (elim (cases_Bool (m == n)) [
        | inl same ↦ grind (arith, below_passed ns (k + 1) n)
        | inr other ↦ one_passed ns k n (rising-tail m ns rising) (simp other at h)
      ])
    ]

-- and less is to come
pub walks_on : (ns : List ℕ) (k : ℕ) → k < 2 ^ 32 → to_walk (least_from ns (k + 1)) < to_walk (Some k)
walks_on [] k below = omega (arith, below)
walks_on (m ∷ ns) k below = grind (arith, walks_on ns k below)

module _ (ns : List ℕ) (test : ℕ → Bool) where
  -- all that were passed pass the test, where the walk comes to this next
  abbrev pub HaveAllPassed : Option ℕ → Type 0
  HaveAllPassed next =
      IsNextOf ns next × ((n : ℕ) → has ns n ≡ true → is_passed next n ≡ true → test n ≡ true)

  pub walk_begins : IsRising ns → HaveAllPassed (least_from ns 0)
  walk_begins rising = (
    next_is ns 0,
    λ n h passed. absurd (false≢true (sym (none_passed ns n rising h) ∙ passed)),
  )

  pub walk_passes : (k : ℕ) → IsRising ns → HaveAllPassed (Some k) → test k ≡ true
      → HaveAllPassed (least_from ns (k + 1))
  walk_passes k rising before own = (
    next_is ns (k + 1),
    λ n h passed. elim (or_cases (nat_lt n k) (k == n) (sym (one_passed ns k n rising h) ∙ passed)) [
      | inl earlier ↦ before.1 n h earlier
      | inr same ↦ subst (λ (m : ℕ). test m ≡ true) (eqb-true k n same) own
    ],
  )

-- where all are passed and pass the test, all do
all_walked : (test : ℕ → Bool) (ns : List ℕ) → ((n : ℕ) → has ns n ≡ true → test n ≡ true)
    → list_all test ns ≡ true
all_walked test [] each = refl
all_walked test (n ∷ ns) each =
    let own : test n ≡ true = each n (has-first n ns) in simp own (all_walked test ns (λ m h. each m (later m h)))
  where
    later : (m : ℕ) → has ns m ≡ true → has (n ∷ ns) m ≡ true
    later m h = grind arith

pub walk_ends : (ns : List ℕ) (test : ℕ → Bool) → HaveAllPassed ns test None → list_all test ns ≡ true
walk_ends ns test walked = all_walked test ns (λ n h. walked.1 n h refl)

-- and one that doesn't makes them fail
pub one_fails : (ns : List ℕ) (test : ℕ → Bool) (n : ℕ) → has ns n ≡ true → test n ≡ false
    → list_all test ns ≡ false
one_fails [] test n h fails = absurd (false≢true h)
one_fails (m ∷ ns) test n h fails = grind (arith, one_fails ns test n)

-- nothing comes behind the last number
pub none_behind : (ns : List ℕ) (k : ℕ) → ((n : ℕ) → has ns n ≡ true → n < k) → least_from ns k ≡ None
none_behind [] k below = refl
none_behind (m ∷ ns) k below = grind (arith, below m, none_behind ns k (λ n h. below n (later n h)))
  where
    later : (n : ℕ) → has ns n ≡ true → has (m ∷ ns) n ≡ true
    later n h = grind arith

-- ---- objects that are changed as they are passed

-- the first is found, and what is found behind it
pub object_first : (o : Object) (os : List Object) → object_at (o ∷ os) o.no ≡ Some o
object_first o os = grind arith

pub object_later : (o : Object) (os : List Object) → IsRising (numbers (o ∷ os)) → (p : Object)
    → object_at os p.no ≡ Some p → object_at (o ∷ os) p.no ≡ Some p
object_later o os rising p at =
    let there : has (numbers os) p.no ≡ true = sym (is_there-has os p.no) ∙ ap is_some at in
    let above = rising-above o.no (numbers os) rising p.no there in
    let other : (o.no == p.no) ≡ false = grind arith in
    simp other at

-- two ways of changing objects that agree on these
pub map-same : (f g : Object → Object) (os : List Object) → IsRising (numbers os)
    → ((o : Object) → object_at os o.no ≡ Some o → f o ≡ g o) → map f os ≡ map g os
map-same f g [] rising same = refl
map-same f g (o ∷ os) rising same =
    let here : f o ≡ g o = same o (object_first o os) in
    let rest : map f os ≡ map g os =
    map-same f g os (rising-tail o.no (numbers os) rising) (λ p at. same p (object_later o os rising p at)) in
    cc

pub numbers-map : (f : Object → Object) (os : List Object) → ((o : Object) → (f o).no ≡ o.no)
    → numbers (map f os) ≡ numbers os
numbers-map f [] number = refl
numbers-map f (o ∷ os) number = grind (arith, number o, numbers-map f os)

-- the object of this number is changed once more
pub changed_one : (g f : Object → Object) (os : List Object) (n : ℕ) → ((o : Object) → (g o).no ≡ o.no)
    → IsRising (numbers os)
    → changed_at (map g os) n f ≡ map (λ o. if o.no == n then f (g o) else g o) os
changed_one g f [] n number rising = refl
changed_one g f (o ∷ os) n number rising =
    elim (cases_Bool (o.no == n)) [
      | inl here ↦
          let own : ((g o).no == n) ≡ true = ap (λ k. k == n) (number o) ∙ here in
          simp (here, own)
          (ap (λ ps. f (g o) ∷ ps) (map-same g (λ p. if p.no == n then f (g p) else g p) os
          (rising-tail o.no (numbers os) rising) (λ p at.
          let there : has (numbers os) p.no ≡ true = sym (is_there-has os p.no) ∙ ap is_some at in
          let above = rising-above o.no (numbers os) rising p.no there in
          let same = eqb-true o.no n here in
          let other : (p.no == n) ≡ false = grind arith in
          simp other refl)))
      | inr other ↦
          let own : ((g o).no == n) ≡ false = ap (λ k. k == n) (number o) ∙ other in
          simp (other, own)
          (ap (λ ps. g o ∷ ps) (changed_one g f os n number (rising-tail o.no (numbers os) rising)))
    ]

-- an object that isn't changed is found as it was
pub found_same : (g : Object → Object) (os : List Object) (n : ℕ) (o : Object) → ((p : Object) → (g p).no ≡ p.no)
    → object_at os n ≡ Some o → g o ≡ o → object_at (map g os) n ≡ Some o
found_same g [] n o number at same = at
found_same g (p ∷ os) n o number at same = grind (arith, number p, found_same g os n o number)
