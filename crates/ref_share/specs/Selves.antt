-- Machines that stand for themselves: their states are their own contents.
use Rattle.std.proofs.Common.{◌≡◌, subst, sym, refl}

-- a machine stands for its own contents
abbrev pub IsItself : {X : Type 0} → X → X → Type 0
IsItself m x = x ≡ m

-- what such a machine does is a turn of it
pub steps_as_it_acts : {X S R : Type 0} (steps_to : X → S → R → X → Type 0) (m n : X) (step : S) (reply : R)
    → steps_to m step reply n → (x : X) → IsItself m x → (y : X) × steps_to x step reply y × IsItself n y
steps_as_it_acts {X = X} steps_to m n step reply acts x same =
    (n, subst (λ (z : X). steps_to z step reply n) (sym same) acts, refl)
