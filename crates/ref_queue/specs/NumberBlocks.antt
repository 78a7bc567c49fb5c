-- How the words of blocks of 64 numbers tell which numbers came.
use Rattle.std.specs.Prelude.{◌≡◌, ℕ, ◌/◌, ◌%◌, Bool, ◌==◌, nat_eq, List, Option, Some, None}
use Rattle.std.specs.Int.{bit_at}
use Rattle.std.specs.List.{IsDistinct}
use Rattle.std.specs.Map.{lookup}
use Rattle.ref_base.specs.Members.{has}

-- the word of a block, which is 0 where the block has none
abbrev pub word_or_none : Option ℕ → ℕ
word_or_none (Some word) = word
word_or_none None = 0

-- whether the words, by the numbers of their blocks, tell that n came
abbrev pub is_told : List (ℕ × ℕ) → ℕ → Bool
is_told words n = bit_at (word_or_none (lookup (nat_eq (n / 64)) words)) (n % 64) == 1

-- the words tell just the numbers of the list, in which none stands twice
pub record TellsNumbers (words : List (ℕ × ℕ)) (ns : List ℕ) : Type 0 where
  pub told : (n : ℕ) → is_told words n ≡ has ns n
  pub distinct : IsDistinct nat_eq ns
