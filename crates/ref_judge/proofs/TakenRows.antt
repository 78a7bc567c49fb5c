-- Notices that a poll takes, by the judge's numbers of what stands.
use Rattle.ref_base.proofs.Common.{arith, ◌≡◌, ℕ, zero, suc, ◌<◌, ◌==◌, ◌||◌, Bool, true, false, List, []}
use Rattle.ref_base.proofs.Common.{◌∷◌, ◌++◌, length, map, take, refl, sym, ap, ◌∙◌, subst, has, slice_index_or, inl}
use Rattle.ref_base.proofs.Common.{inr}
use Rattle.ref_base.proofs.Common.{cases_Bool, false≢true, eq-eqb, eqb-true, Notice, object_of, map-append}
use Rattle.std.specs.Prelude.{reverse, min, ◌-◌}
use Rattle.std.specs.List.{AllByRecursion}
use Rattle.std.proofs.lemmas.List.{get_or-reverse, get_or-take, length-take, length-reverse, reverse-append, take-map}
use Rattle.ref_base.specs.Members.{AreDistinct, without_first}
use Rattle.ref_base.specs.Refusals.{is_empty}
use Rattle.ref_base.specs.Replay.{notice_of, notices_of, without_notices}
use Rattle.ref_base.proofs.BatchParts.{all_joined}
use Rattle.ref_base.proofs.HasLaws.{has-get_or}
use Rattle.ref_judge.specs.ProfiledRows.{AreTakenFrom, MayTake}
use Rattle.ref_judge.specs.Queueing.{without_each, MayTakeNos}
use Rattle.ref_judge.specs.declared.order.Order.{Order}
use Rattle.ref_judge.specs.declared.order.Order.TheVariants.{First, Last, Any}
use Rattle.ref_judge.proofs.TakenOrders.{first_is, last_is, may_taken}
use Rattle.ref_judge.proofs.TakenSets.{but, AreTaken, taken_all, taken_distinct}

abbrev pub names : List Notice → List ℕ
names xs = map object_of xs

names_but : (xs : List Notice) (n : ℕ) → names (without_first object_of xs n) ≡ but (names xs) n
names_but [] n = refl
names_but (x ∷ xs) n = grind (arith, names_but xs n)

-- the notice of a number that stands
one_notice : (xs : List Notice) (n : ℕ) → has (names xs) n ≡ true
    → (x : Notice) × (notice_of xs n ≡ x ∷ []) × (x.object ≡ n)
one_notice [] n h = absurd (false≢true h)
one_notice (x ∷ xs) n h =
    elim (cases_Bool (x.object == n)) [
      | inl is ↦ (x, rw is refl, eqb-true x.object n is)
      | inr other ↦
          let rest = one_notice xs n (rw other at h) in (rest.0, rw other rest.1, rest.2)
    ]

has_notice : (xs : List Notice) (n : ℕ) (x : Notice) → notice_of xs n ≡ x ∷ [] → has (names xs) n ≡ true
has_notice [] n x is = absurd cc
has_notice (y ∷ ys) n x is =
    elim (cases_Bool (y.object == n)) [
      | inl here ↦ rw here refl
      | inr other ↦ rw other (has_notice ys n x (rw other at is))
    ]

-- those of these numbers have them
pub names_taken : (xs : List Notice) (ns : List ℕ) → AreTaken (names xs) ns → names (notices_of xs ns) ≡ ns
names_taken xs [] taken = refl
names_taken xs (n ∷ ns) taken =
    let one = one_notice xs n taken.0 in
    map-append object_of (notice_of xs n) (notices_of (without_first object_of xs n) ns)
    ∙ ap (λ ys. names ys ++ names (notices_of (without_first object_of xs n) ns)) one.1
    ∙ ap (λ k. k ∷ names (notices_of (without_first object_of xs n) ns)) one.2
    ∙ ap (λ ks. n ∷ ks)
    (names_taken (without_first object_of xs n) ns (subst (λ ks. AreTaken ks ns) (sym (names_but xs n)) taken.1))

pub names_left : (xs : List Notice) (ns : List ℕ) → names (without_notices xs ns) ≡ without_each (names xs) ns
names_left xs [] = refl
names_left xs (n ∷ ns) =
    names_left (without_first object_of xs n) ns ∙ ap (λ ks. without_each ks ns) (names_but xs n)

module _ (P : Notice → Type 0) where
  all_notice : (xs : List Notice) (n : ℕ) → AllByRecursion P xs → AllByRecursion P (notice_of xs n)
  all_notice [] n all = tt
  all_notice (x ∷ xs) n all =
      elim (cases_Bool (x.object == n)) [
        | inl is ↦ rw is (all.0, tt)
        | inr other ↦ rw other (all_notice xs n all.1)
      ]

  all_but : (xs : List Notice) (n : ℕ) → AllByRecursion P xs → AllByRecursion P (without_first object_of xs n)
  all_but [] n all = tt
  all_but (x ∷ xs) n all =
      elim (cases_Bool (x.object == n)) [
        | inl is ↦ rw is all.1
        | inr other ↦ rw other (all.0, all_but xs n all.1)
      ]

  -- what holds of each that stands holds of each that is taken
  pub all_notices : (xs : List Notice) (ns : List ℕ) → AllByRecursion P xs → AllByRecursion P (notices_of xs ns)
  all_notices xs [] all = tt
  all_notices xs (n ∷ ns) all =
      all_joined P (notice_of xs n) (notices_of (without_first object_of xs n) ns) (all_notice xs n all)
      (all_notices (without_first object_of xs n) ns (all_but xs n all))

-- they are taken one after the other
from_taken : (xs : List Notice) (ns : List ℕ) → AreTaken (names xs) ns → AreTakenFrom xs (notices_of xs ns)
from_taken xs [] taken = tt
from_taken xs (n ∷ ns) taken =
    let one = one_notice xs n taken.0 in
    let rest =
    from_taken (without_first object_of xs n) ns (subst (λ ks. AreTaken ks ns) (sym (names_but xs n)) taken.1) in
    subst (λ (ys : List Notice). AreTakenFrom xs (ys ++ notices_of (without_first object_of xs n) ns)) (sym one.1) (
      ap (notice_of xs) one.2 ∙ one.1,
      subst (λ k. AreTakenFrom (without_first object_of xs k) (notices_of (without_first object_of xs n) ns))
          (sym one.2) rest,
    )

taken_from : (xs taken : List Notice) → AreTakenFrom xs taken → AreTaken (names xs) (names taken)
taken_from xs [] from = tt
taken_from xs (x ∷ taken) from = (
  has_notice xs x.object x from.0,
  subst (λ ks. AreTaken ks (names taken)) (names_but xs x.object)
      (taken_from (without_first object_of xs x.object) taken from.1),
)

names_reverse : (xs : List Notice) → names (reverse xs) ≡ reverse (names xs)
names_reverse [] = refl
names_reverse (x ∷ xs) =
    ap names (reverse-append (x ∷ []) xs) ∙ map-append object_of (reverse xs) (x ∷ [])
    ∙ ap (λ ks. ks ++ x.object ∷ []) (names_reverse xs) ∙ sym (reverse-append (x.object ∷ []) (names xs))

count_names : (xs : List Notice) → length (names xs) ≡ length xs
count_names [] = refl
count_names (x ∷ xs) = let rest = count_names xs in omega (arith, rest)

-- ---- in each order

pub may_notices : (order : Order) (count : ℕ) (xs : List Notice) (ns : List ℕ) → AreDistinct (names xs)
    → MayTakeNos order count (names xs) ns → (taken : List Notice) × MayTake order count xs taken × (names taken ≡ ns)
may_notices First count xs ns once may =
    (take count xs, refl, sym (take-map object_of count xs) ∙ sym (first_is (names xs) ns count may.0 may.2))
may_notices Last count xs ns once may = (
  take count (reverse xs),
  refl,
  sym (take-map object_of count (reverse xs)) ∙ ap (take count) (names_reverse xs)
      ∙ sym (last_is (names xs) ns count may.0 may.2),
)
may_notices Any count xs ns once may =
    let taken = may_taken Any count (names xs) ns once may in
    let named = names_taken xs ns taken in (
      notices_of xs ns,
      (
        sym (count_names (notices_of xs ns)) ∙ ap length named ∙ may.0 ∙ ap (min count) (count_names xs),
        from_taken xs ns taken,
      ),
      named,
    )

below_first : (count len i : ℕ) → i < min count len → (i < count) × (i < len)
below_first count len i within = (omega (arith, within), omega (arith, within))

distinct_lacks : (ns : List ℕ) (i : ℕ) → AreDistinct ns → i < length ns
    → has (take i ns) (slice_index_or ns i 0) ≡ false
distinct_lacks [] i once within = absurd (omega (arith, within))
distinct_lacks (n ∷ ns) zero once within = refl
distinct_lacks (n ∷ ns) (suc i) once within =
    let here : i < length ns = omega (arith, within) in
    let other = has-get_or ns i here in
    let rest = distinct_lacks ns i once.1 here in
    rw rest (differ (n == slice_index_or ns i 0) (eqb-true n (slice_index_or ns i 0)) other)
  where
    differ : (b : Bool) → (b ≡ true → n ≡ slice_index_or ns i 0) → has ns (slice_index_or ns i 0) ≡ true
        → (b || false) ≡ false
    differ true to there = absurd (false≢true (sym once.0 ∙ subst (λ k. has ns k ≡ true) (sym (to refl)) there))
    differ false to there = refl

pub notices_may : (order : Order) (count : ℕ) (xs taken : List Notice) → AreDistinct (names xs)
    → is_empty (names taken) ≡ false → MayTake order count xs taken → MayTakeNos order count (names xs) (names taken)
notices_may First count xs taken once some may =
    let is : names taken ≡ take count (names xs) = ap names may ∙ sym (take-map object_of count xs) in
    subst (λ ns. is_empty ns ≡ false → MayTakeNos First count (names xs) ns) (sym is)
    (λ full. (
      length-take count (names xs),
      full,
      λ i within.
          eq-eqb (slice_index_or (names xs) i 0) (slice_index_or (take count (names xs)) i 0)
          (sym (get_or-take count (names xs) i 0
          (below_first count (length (names xs)) i (subst (λ k. i < k) (length-take count (names xs)) within)).0)),
    )) some
notices_may Last count xs taken once some may =
    let st : List ℕ = names xs in
    let is : names taken ≡ take count (reverse st) =
    ap names may ∙ sym (take-map object_of count (reverse xs)) ∙ ap (take count) (names_reverse xs) in
    let len : length (take count (reverse st)) ≡ min count (length st) =
    length-take count (reverse st) ∙ ap (min count) (length-reverse st) in
    subst (λ ns. is_empty ns ≡ false → MayTakeNos Last count st ns) (sym is)
    (λ full. (
      len,
      full,
      λ i within.
          let below = below_first count (length st) i (subst (λ k. i < k) len within) in
          eq-eqb (slice_index_or st (length st - 1 - i) 0) (slice_index_or (take count (reverse st)) i 0)
          (sym (get_or-take count (reverse st) i 0 below.0 ∙ get_or-reverse st i 0 below.1)),
    )) some
notices_may Any count xs taken once some may =
    let from = taken_from xs taken may.1 in
    let distinct = taken_distinct (names xs) (names taken) once from in (
      count_names taken ∙ may.0 ∙ ap (min count) (sym (count_names xs)),
      some,
      λ i within.
          rw (
            taken_all (names xs) (names taken) from (slice_index_or (names taken) i 0)
                (has-get_or (names taken) i within),
            distinct_lacks (names taken) i distinct within,
          ) refl,
    )
