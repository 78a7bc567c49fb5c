-- Runs: lists of entries that lead from one state of a machine to another, one after the other.
use Rattle.std.specs.Prelude.{◌≡◌, List, [], ◌∷◌}

module _ {S E : Type 0} (leads : S → E → S → Type 0) where
  -- the entries lead from the one state to the other
  abbrev pub LeadsThrough : S → List E → S → Type 0
  LeadsThrough x [] y = y ≡ x
  LeadsThrough x (e ∷ es) y = (z : S) × leads x e z × LeadsThrough z es y
