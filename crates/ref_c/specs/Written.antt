-- What a caller's table holds when something was written into it.
use Rattle.std.specs.Prelude.{◌≡◌, ℕ, List, [], ◌∷◌, length, if◌then◌else◌, nat_le}

-- a table into which these were written from its begin on, as far as there is room: what stood behind them stays
abbrev pub written_over : {T : Type 0} → List T → List T → List T
written_over [] new = []
written_over (old ∷ olds) [] = old ∷ olds
written_over (old ∷ olds) (first ∷ rest) = first ∷ written_over olds rest

-- the lesser of two
abbrev pub lesser : ℕ → ℕ → ℕ
lesser m n = if nat_le m n then m else n

-- a table was that one, these were written into it, and so many of its places are used by them
abbrev pub IsWritten : List ℕ → List ℕ → List ℕ → ℕ → Type 0
IsWritten table new now used = (now ≡ written_over table new) × (used ≡ lesser (length new) (length table))
