-- Tables into which numbers are written one behind the other.
use Rattle.std.proofs.Common.{◌≡◌, ℕ, ◌+◌, ◌<◌, ◌≤◌, List, [], ◌∷◌, ◌++◌, length, slice_set, refl, ap, sym}
use Rattle.std.proofs.Common.{arith, suc}
use Rattle.std.proofs.lemmas.List.{length-append}
use Rattle.ref_c.specs.Written.{IsWritten, written_over}

pub written-none : {T : Type 0} (table : List T) → written_over table [] ≡ table
written-none [] = refl
written-none (old ∷ olds) = refl

pub written-length : {T : Type 0} (table new : List T) → length (written_over table new) ≡ length table
written-length [] new = refl
written-length (old ∷ olds) [] = refl
written-length (old ∷ olds) (first ∷ rest) = ap suc (written-length olds rest)

-- one more, where there is room
pub written-more : {T : Type 0} (table new : List T) (one : T) → length new < length table
    → slice_set (written_over table new) (length new) one ≡ written_over table (new ++ one ∷ [])
written-more [] new one room = absurd (omega (arith, room))
written-more (old ∷ olds) [] one room = grind (arith, written-none olds)
written-more (old ∷ olds) (first ∷ rest) one room = grind (arith, written-more olds rest one)

-- nothing more is written where there is none
pub written-full : {T : Type 0} (table new more : List T) → length table ≤ length new
    → written_over table (new ++ more) ≡ written_over table new
written-full [] new more full = refl
written-full (old ∷ olds) [] more full = absurd (omega (arith, full))
written-full (old ∷ olds) (first ∷ rest) more full = grind (arith, written-full olds rest more)

-- what is written into a table that is as it was
pub nothing-written : (table : List ℕ) → IsWritten table [] table 0
nothing-written table = (sym (written-none table), grind arith)

-- one number more
pub number-written : (first new table : List ℕ) (used one : ℕ) → IsWritten first new table used → used < length table
    → IsWritten first (new ++ one ∷ []) (slice_set table used one) (used + 1)
number-written first new table used one is room =
    grind (arith, written-more first new one, written-length first new, length-append new (one ∷ []))

pub number-left-out : (first new table : List ℕ) (used one : ℕ) → IsWritten first new table used
    → length table ≤ used → IsWritten first (new ++ one ∷ []) table used
number-left-out first new table used one is full =
    grind (arith, written-full first new (one ∷ []), written-length first new, length-append new (one ∷ []))
