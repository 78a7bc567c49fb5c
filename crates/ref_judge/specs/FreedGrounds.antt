-- Objects of which several are freed (this project's).
use Rattle.std.specs.Prelude.{ℕ, List, [], ◌∷◌}
use Rattle.ref_objects.specs.Grounds.{Ground, after_freeing}

-- these are freed, one after the other
abbrev pub all_freed : Ground → List ℕ → Ground
all_freed g [] = g
all_freed g (n ∷ ns) = all_freed (after_freeing g n) ns
