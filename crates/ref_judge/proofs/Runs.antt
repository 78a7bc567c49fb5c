-- Runs of a machine whose entries are entries of another are runs of that one.
use Rattle.ref_base.proofs.Common.{List, [], ◌∷◌}
use Rattle.ref_base.specs.Runs.{LeadsThrough}

pub runs_through : {S E : Type 0} (leads goes : S → E → S → Type 0)
    → ((x : S) (e : E) (y : S) → leads x e y → goes x e y)
    → (x : S) (es : List E) (y : S) → LeadsThrough leads x es y → LeadsThrough goes x es y
runs_through leads goes also x [] y run = run
runs_through leads goes also x (e ∷ es) y run =
    (run.0, also x e run.0 run.1, runs_through leads goes also run.0 es y run.2)
