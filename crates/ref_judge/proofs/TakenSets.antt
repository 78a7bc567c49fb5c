-- Numbers that are taken from what stands in a queue, each of which stands and is taken once.
use Rattle.ref_base.proofs.Common.{arith, ◌≡◌, ℕ, zero, suc, ◌+◌, ◌==◌, ◌||◌, Bool, true, false, List, []}
use Rattle.ref_base.proofs.Common.{◌∷◌, ◌++◌, length, take, refl, sym, ap, ◌∙◌, subst, has, inl, inr}
use Rattle.ref_base.proofs.Common.{cases_Bool, false≢true, eqb-true, eq-eqb}
use Rattle.std.specs.Prelude.{reverse}
use Rattle.std.proofs.lemmas.List.{reverse-append}
use Rattle.ref_base.specs.Members.{AreDistinct, without_first}
use Rattle.ref_base.proofs.HasLaws.{has-append, has-take}
use Rattle.ref_judge.specs.Queueing.{without_each}

-- without a number
abbrev pub but : List ℕ → ℕ → List ℕ
but ns n = without_first (λ m. m) ns n

-- each stands where those before it are gone
abbrev pub AreTaken : List ℕ → List ℕ → Type 0
AreTaken stands [] = Unit {0}
AreTaken stands (n ∷ ns) = (has stands n ≡ true) × AreTaken (but stands n) ns

-- another number stands there still
but_other : (stands : List ℕ) (n m : ℕ) → (n == m) ≡ false → has (but stands n) m ≡ has stands m
but_other [] n m other = refl
but_other (k ∷ ks) n m other = grind (arith, but_other ks n m other)

-- what stands there stood before
pub but_has : (stands : List ℕ) (n m : ℕ) → has (but stands n) m ≡ true → has stands m ≡ true
but_has [] n m h = h
but_has (k ∷ ks) n m h = grind (arith, but_has ks n m)

-- it itself no longer does, where it stood once
pub but_lacks : (stands : List ℕ) (n : ℕ) → AreDistinct stands → has (but stands n) n ≡ false
but_lacks [] n once = refl
but_lacks (k ∷ ks) n once = grind (arith, but_lacks ks n once.1)

pub but_distinct : (stands : List ℕ) (n : ℕ) → AreDistinct stands → AreDistinct (but stands n)
but_distinct [] n once = tt
but_distinct (k ∷ ks) n once =
    elim (cases_Bool (k == n)) [
      | inl is ↦ rw is once.1
      | inr other ↦ rw other (lacks (has (but ks n) k) (but_has ks n k) once.0, but_distinct ks n once.1)
    ]
  where
    lacks : (b : Bool) → (b ≡ true → has ks k ≡ true) → has ks k ≡ false → b ≡ false
    lacks true to none = absurd (false≢true (sym none ∙ to refl))
    lacks false to none = refl

-- those of which each stands, and none is there twice, are taken so
pub all_taken : (stands ns : List ℕ) → ((m : ℕ) → has ns m ≡ true → has stands m ≡ true) → AreDistinct ns
    → AreTaken stands ns
all_taken stands [] all once = tt
all_taken stands (n ∷ ns) all once =
    (all n (rw (eq-eqb n n refl) refl), all_taken (but stands n) ns (λ m h. still m h) once.1)
  where
    later : (m : ℕ) → has ns m ≡ true → has (n ∷ ns) m ≡ true
    later m h = grind (arith, h)

    still : (m : ℕ) → has ns m ≡ true → has (but stands n) m ≡ true
    still m h =
        elim (cases_Bool (n == m)) [
          | inl is ↦ absurd (false≢true (sym once.0 ∙ subst (λ k. has ns k ≡ true) (sym (eqb-true n m is)) h))
          | inr other ↦ but_other stands n m other ∙ all m (later m h)
        ]

-- and back
pub taken_all : (stands ns : List ℕ) → AreTaken stands ns → (m : ℕ) → has ns m ≡ true → has stands m ≡ true
taken_all stands [] taken m h = absurd (false≢true h)
taken_all stands (n ∷ ns) taken m h =
    elim (cases_Bool (n == m)) [
      | inl is ↦ subst (λ k. has stands k ≡ true) (eqb-true n m is) taken.0
      | inr other ↦ but_has stands n m (taken_all (but stands n) ns taken.1 m (rw other at h))
    ]

pub taken_distinct : (stands ns : List ℕ) → AreDistinct stands → AreTaken stands ns → AreDistinct ns
taken_distinct stands [] once taken = tt
taken_distinct stands (n ∷ ns) once taken = (
  lacks (has ns n) (taken_all (but stands n) ns taken.1 n),
  taken_distinct (but stands n) ns (but_distinct stands n once) taken.1,
)
  where
    lacks : (b : Bool) → (b ≡ true → has (but stands n) n ≡ true) → b ≡ false
    lacks true to = absurd (false≢true (sym (but_lacks stands n once) ∙ to refl))
    lacks false to = refl

-- ---- how many are left, and which

but_length : (stands : List ℕ) (n : ℕ) → has stands n ≡ true → length (but stands n) + 1 ≡ length stands
but_length [] n h = absurd (false≢true h)
but_length (k ∷ ks) n h = grind (arith, but_length ks n)

pub taken_length : (stands ns : List ℕ) → AreTaken stands ns
    → length (without_each stands ns) + length ns ≡ length stands
taken_length stands [] taken = omega arith
taken_length stands (n ∷ ns) taken =
    let rest = taken_length (but stands n) ns taken.1 in
    let one = but_length stands n taken.0 in omega (arith, rest, one)

but_both : (stands : List ℕ) (n m : ℕ) → has stands n ≡ true → ((n == m) || has (but stands n) m) ≡ has stands m
but_both [] n m h = absurd (false≢true h)
but_both (k ∷ ks) n m h = grind (arith, but_both ks n m)

or_both : (a b c : Bool) → ((a || b) || c) ≡ (b || (a || c))
or_both true true c = refl
or_both true false c = refl
or_both false true c = refl
or_both false false c = refl

-- what was taken or is left stood, and nothing else
pub taken_both : (stands ns : List ℕ) (m : ℕ) → AreTaken stands ns
    → (has ns m || has (without_each stands ns) m) ≡ has stands m
taken_both stands [] m taken = refl
taken_both stands (n ∷ ns) m taken =
    or_both (n == m) (has ns m) (has (without_each (but stands n) ns) m)
    ∙ swap (n == m) (has ns m) (has (without_each (but stands n) ns) m) (has (but stands n) m)
    (taken_both (but stands n) ns m taken.1)
    ∙ but_both stands n m taken.0
  where
    swap : (a b c d : Bool) → (b || c) ≡ d → (b || (a || c)) ≡ (a || d)
    swap true true c d is = refl
    swap true false c d is = refl
    swap false b c d is = is

-- ---- distinct numbers

distinct_push : (ns : List ℕ) (n : ℕ) → AreDistinct ns → has ns n ≡ false → AreDistinct (ns ++ n ∷ [])
distinct_push [] n once none = (refl, tt)
distinct_push (m ∷ ms) n once none = grind (arith, has-append, distinct_push ms n once.1)

has_reverse : (ns : List ℕ) (n : ℕ) → has (reverse ns) n ≡ has ns n
has_reverse [] n = refl
has_reverse (m ∷ ms) n =
    ap (λ ks. has ks n) (reverse-append (m ∷ []) ms) ∙ has-append (reverse ms) (m ∷ []) n
    ∙ ap (λ (b : Bool). b || ((m == n) || false)) (has_reverse ms n) ∙ swap (has ms n) (m == n)
  where
    swap : (a b : Bool) → (a || (b || false)) ≡ (b || a)
    swap true true = refl
    swap true false = refl
    swap false true = refl
    swap false false = refl

distinct_reverse : (ns : List ℕ) → AreDistinct ns → AreDistinct (reverse ns)
distinct_reverse [] once = tt
distinct_reverse (m ∷ ms) once =
    subst AreDistinct (sym (reverse-append (m ∷ []) ms))
    (distinct_push (reverse ms) m (distinct_reverse ms once.1) (has_reverse ms m ∙ once.0))

distinct_take : (k : ℕ) (ns : List ℕ) → AreDistinct ns → AreDistinct (take k ns)
distinct_take zero ns once = tt
distinct_take (suc k) [] once = tt
distinct_take (suc k) (n ∷ ns) once = (lacks (has (take k ns) n) (has-take k ns n) once.0, distinct_take k ns once.1)
  where
    lacks : (b : Bool) → (b ≡ true → has ns n ≡ true) → has ns n ≡ false → b ≡ false
    lacks true to none = absurd (false≢true (sym none ∙ to refl))
    lacks false to none = refl

-- those that stand first, or last, are taken so
pub first_taken : (count : ℕ) (stands : List ℕ) → AreDistinct stands → AreTaken stands (take count stands)
first_taken count stands once =
    all_taken stands (take count stands) (λ m h. has-take count stands m h) (distinct_take count stands once)

pub last_taken : (count : ℕ) (stands : List ℕ) → AreDistinct stands → AreTaken stands (take count (reverse stands))
last_taken count stands once =
    all_taken stands (take count (reverse stands))
    (λ m h. sym (has_reverse stands m) ∙ has-take count (reverse stands) m h)
    (distinct_take count (reverse stands) (distinct_reverse stands once))
