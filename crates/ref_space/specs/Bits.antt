-- A bitmap as a list: the bits of a word of 64, the lowest first.
use Rattle.std.specs.Prelude.{ℕ, zero, suc, ◌/◌, ◌%◌, Bool, true, false, ◌==◌, if◌then◌else◌}
use Rattle.std.specs.Prelude.{List, [], ◌∷◌, Option, Some, None}
use Rattle.std.specs.Option.{option_map}

-- the lowest bits, as many as the number says
abbrev pub bits : ℕ → ℕ → List Bool
bits zero w = []
bits (suc k) w = (w % 2 == 1) ∷ bits k (w / 2)

-- all 64
unfoldable pub bits_of : ℕ → List Bool
bits_of w = bits 64 w

-- where the first stands that is set
abbrev pub first_set : List Bool → Option ℕ
first_set [] = None
first_set (b ∷ bs) = if b then Some 0 else option_map suc (first_set bs)

-- and the first that isn't
abbrev pub first_clear : List Bool → Option ℕ
first_clear [] = None
first_clear (b ∷ bs) = if b then option_map suc (first_clear bs) else Some 0

abbrev pub any_set : List Bool → Bool
any_set [] = false
any_set (b ∷ bs) = if b then true else any_set bs

-- how many aren't set
abbrev pub count_clear : List Bool → ℕ
count_clear [] = 0
count_clear (b ∷ bs) = if b then count_clear bs else suc (count_clear bs)
