-- One thing, done a number of times.
use Rattle.std.specs.Prelude.{◌≡◌, ℕ, zero, suc}

-- one thing is done as often as the number says, each time from where the time before left it
abbrev pub Repeats : {X : Type 0} → (X → X → Type 0) → ℕ → X → X → Type 0
Repeats once zero x z = z ≡ x
Repeats {X = X} once (suc count) x z = (y : X) × Repeats once count x y × once y z
