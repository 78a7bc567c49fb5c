-- A table of the program as names of the definitions.
use Rattle.std.specs.Prelude.{ℕ, List, [], ◌∷◌, Option, Some, None}
use Rattle.arrayvec.specs.ArrayVec.{ArrayVec}
use Rattle.ref_log.specs.Names.{Given}

abbrev pub names_in : List (ArrayVec ℕ × ℕ) → List Given
names_in [] = []
names_in (e ∷ es) = record { name = e.0.items; number = e.1 } ∷ names_in es

-- names that were given, and the line that was written last
pub record NamesAndLine : Type 0 where
  pub names : List Given
  pub line : List ℕ

-- the names, where objects have some
abbrev pub names_known : Option NamesAndLine → Option (List Given)
names_known None = None
names_known (Some known) = Some known.names
