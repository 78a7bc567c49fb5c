-- Histories: lists of entries, each with the number of the seat that made the call, its step and its reply.
use Rattle.std.specs.Prelude.{◌≡◌, ◌==◌, ℕ, List, [], ◌∷◌, ◌++◌, Option, Some, if◌then◌else◌}
use Rattle.ref_base.specs.Runs.{LeadsThrough}
use Rattle.ref_turn.specs.declared.history.Entry.{Entry}

module _ {S R : Type 0} where
  -- the entries of the seat n
  abbrev pub calls_by : ℕ → List (Entry S R) → List (Entry S R)
  calls_by n [] = []
  calls_by n (e ∷ es) = if e.by == n then e ∷ calls_by n es else calls_by n es

  -- a history begins with what was seen
  abbrev pub StartsWith : List (Entry S R) → List (Entry S R) → Type 0
  StartsWith log seen = (more : List (Entry S R)) × (log ≡ seen ++ more)

  module _ {X : Type 0} (steps_to : X → S → R → X → Type 0) where
    -- the entries lead from one state to another, step by step
    abbrev pub Leads : X → List (Entry S R) → X → Type 0
    Leads = LeadsThrough (λ x (e : Entry S R) y. steps_to x e.step e.reply y)

  module _ {M X : Type 0} (stands_for : M → X → Type 0) (steps_to : X → S → R → X → Type 0) where
    -- from each state that the first machine stands for the entries lead to one that m stands for
    abbrev pub Reaches : Option M → List (Entry S R) → M → Type 0
    Reaches start log m =
        (a : M) (x : X) → start ≡ Some a → stands_for a x → (y : X) × Leads steps_to x log y × stands_for m y

    -- from each state that the first machine stands for the entries lead somewhere
    abbrev pub IsLegalLog : Option M → List (Entry S R) → Type 0
    IsLegalLog start log = (a : M) (x : X) → start ≡ Some a → stands_for a x → (y : X) × Leads steps_to x log y
