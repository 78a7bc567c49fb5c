-- How a table of near numbers and a map of far ones tell where a number stands in a list.
use Rattle.std.specs.Prelude.{◌≡◌, ℕ, ◌-◌, ◌==◌, nat_lt, nat_eq, if◌then◌else◌, List, Option, Some, None, get_or}
use Rattle.std.specs.List.{IsDistinct, position}
use Rattle.std.specs.Map.{lookup}

-- a number below this one is near
abbrev pub first_far : ℕ
first_far = 1048576

-- the place that an entry of the table tells: the entry is one more, and 0 where there is none
abbrev pub place_before : ℕ → Option ℕ
place_before next = if next == 0 then None else Some (next - 1)

-- the place that table and map tell of n
abbrev pub told_place : List ℕ → List (ℕ × ℕ) → ℕ → Option ℕ
told_place near far n = if nat_lt n first_far then place_before (get_or near n 0) else lookup (nat_eq n) far

-- they tell just where each number stands in the list, in which none stands twice
pub record TellsPlaces (near : List ℕ) (far : List (ℕ × ℕ)) (ns : List ℕ) : Type 0 where
  pub told : (n : ℕ) → told_place near far n ≡ position (nat_eq n) ns
  pub distinct : IsDistinct nat_eq ns
