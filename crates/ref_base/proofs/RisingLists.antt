-- Lists of numbers that rise.
use Rattle.ref_base.proofs.Common.{◌≡◌, ℕ, ◌+◌, ◌<◌, true, false, ◌==◌, sym, ap, ◌∙◌, arith, List, [], ◌∷◌, inl, inr}
use Rattle.ref_base.proofs.Common.{suc, refl, cases_Bool, true≢false, false≢true, eqb-true, or_cases, has, IsRising}
use Rattle.std.specs.List.Sorted.{IsStrictlyIncreasing}
use Rattle.ref_base.proofs.HasLaws.{has-first}
use native.Mathlib.Numerals.{unary_clauses}

-- what stands behind a number is greater
pub rising-above : (n : ℕ) (ns : List ℕ) → IsRising (n ∷ ns) → (m : ℕ) → has ns m ≡ true → n < m
rising-above n [] rising m h = absurd (false≢true h)
rising-above n (k ∷ ks) rising m h = grind (arith, rising-above k ks rising.1 m)

pub rising-tail : (n : ℕ) (ns : List ℕ) → IsRising (n ∷ ns) → IsRising ns
rising-tail n [] rising = tt
rising-tail n (m ∷ ms) rising = rising.1

pub rising-cons : (n : ℕ) (ns : List ℕ) → ((m : ℕ) → has ns m ≡ true → n < m) → IsRising ns → IsRising (n ∷ ns)
rising-cons n [] above rising = tt
rising-cons n (m ∷ ms) above rising = (above m (has-first m ms), rising)

-- what isn't above a number doesn't stand behind it
pub rising-lacks : (n : ℕ) (ns : List ℕ) → IsRising (n ∷ ns) → (m : ℕ) → m < n + 1 → has ns m ≡ false
rising-lacks n ns rising m below = grind (arith, rising-above)

-- two lists that rise and have the same numbers are the same
pub rising-same : (ms ns : List ℕ) → IsRising ms → IsRising ns → ((n : ℕ) → has ms n ≡ has ns n) → ms ≡ ns
rising-same [] [] ups downs same = refl
rising-same [] (n ∷ ns) ups downs same = absurd (false≢true (same n ∙ has-first n ns))
rising-same (m ∷ ms) [] ups downs same = absurd (true≢false (sym (has-first m ms) ∙ same m))
rising-same (m ∷ ms) (n ∷ ns) ups downs same =
    let among : (has (n ∷ ns) m) ≡ true = sym (same m) ∙ has-first m ms in
    let back : (has (m ∷ ms) n) ≡ true = same n ∙ has-first n ns in
    let first : m ≡ n = elim (or_cases (n == m) (has ns m) among) [
      | inl is ↦ sym (eqb-true n m is)
      | inr above ↦ elim (or_cases (m == n) (has ms n) back) [
        | inl is ↦ eqb-true m n is
        | inr below ↦
            let up = rising-above n ns downs m above in
            let down = rising-above m ms ups n below in
            absurd (omega arith)
      ]
    ] in
    let rest : (k : ℕ) → has ms k ≡ has ns k = λ k. elim (cases_Bool (m == k)) [
      | inl is ↦
          let number : m ≡ k = eqb-true m k is in
          rising-lacks m ms ups k (omega arith) ∙ sym (rising-lacks n ns downs k (omega arith))
      | inr other ↦
          let turned : (n == k) ≡ false = ap (λ j. j == k) (sym first) ∙ other in
          simp (other, turned) at (same k)
    ] in
    rw (first, rising-same ms ns (rising-tail m ms ups) (rising-tail n ns downs) rest) refl

pub rising_from_increasing : (ns : List ℕ) → IsStrictlyIncreasing ns → IsRising ns
rising_from_increasing [] up = tt
rising_from_increasing (n ∷ []) up = tt
rising_from_increasing (n ∷ m ∷ ms) up = (
  up 0 (omega arith),
  rising_from_increasing (m ∷ ms) (λ k within. simp unary_clauses (simp unary_clauses at (up (suc k) (omega arith)))),
)
