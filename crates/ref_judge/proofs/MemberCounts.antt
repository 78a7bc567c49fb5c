-- How many distinct numbers there are: as many as in each other list of distinct numbers that has just these.
use Rattle.ref_base.proofs.Common.{arith, ◌≡◌, ℕ, ◌+◌, true, false, ◌==◌, List, [], ◌∷◌, length, refl, sym}
use Rattle.ref_base.proofs.Common.{true≢false, has}
use Rattle.std.specs.Prelude.{◌≤◌}
use Rattle.ref_base.specs.Heaps.{one_fewer}
use Rattle.ref_base.specs.Members.{AreDistinct}
use Rattle.ref_base.specs.Strengths.{IsRising}
use Rattle.ref_base.proofs.RisingLists.{rising-lacks, rising-tail}

length-one_fewer : (ms : List ℕ) (n : ℕ) → has ms n ≡ true → length (one_fewer ms n) + 1 ≡ length ms
length-one_fewer [] n within = absurd (true≢false (sym within))
length-one_fewer (m ∷ ms) n within = grind (arith, length-one_fewer ms n)

has-one_fewer : (ms : List ℕ) (n m : ℕ) → (n == m) ≡ false → has (one_fewer ms n) m ≡ has ms m
has-one_fewer [] n m other = refl
has-one_fewer (k ∷ ms) n m other = grind (arith, has-one_fewer ms n m other)

-- distinct numbers of a list are no more than the list has
pub distinct_fit : (ns ms : List ℕ) → AreDistinct ns → ((n : ℕ) → has ns n ≡ true → has ms n ≡ true)
    → length ns ≤ length ms
distinct_fit [] ms distinct within = omega arith
distinct_fit (n ∷ ns) ms distinct within = grind (arith, has-one_fewer, distinct_fit ns, length-one_fewer ms n)

pub same_many : (ms ns : List ℕ) → AreDistinct ms → AreDistinct ns
    → ((n : ℕ) → has ms n ≡ true → has ns n ≡ true) → ((n : ℕ) → has ns n ≡ true → has ms n ≡ true)
    → length ms ≡ length ns
same_many ms ns first second there back =
    let less = distinct_fit ms ns first there in
    let more = distinct_fit ns ms second back in
    omega (arith, less, more)

-- numbers that rise are distinct
pub rising_distinct : (ns : List ℕ) → IsRising ns → AreDistinct ns
rising_distinct [] rising = tt
rising_distinct (n ∷ ns) rising =
    (rising-lacks n ns rising n (omega arith), rising_distinct ns (rising-tail n ns rising))
