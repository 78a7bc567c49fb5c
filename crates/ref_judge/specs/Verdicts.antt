-- What a judge says of a trace (this project's).
use Rattle.std.specs.Prelude.{◌≡◌, ℕ, false, List, [], ◌∷◌, ◌++◌, length, Option, Some, None}
use Rattle.ref_base.specs.declared.config.Config.{Config}
use Rattle.ref_base.specs.declared.reply.Reply.{Reply}
use Rattle.ref_base.specs.declared.row.Row.{Row}
use Rattle.ref_base.specs.declared.step.Step.{Step}
use Rattle.ref_judge.specs.Judged.{has_one}
use Rattle.ref_judge.specs.ProfiledRows.{IsLegalAs}
use Rattle.ref_judge.specs.declared.profile.Profile.{Profile}
use Rattle.ref_judge.specs.declared.rule.Instead.{Instead}
use Rattle.ref_judge.specs.declared.rule.Instead.TheVariants.{Only, Among, Untold}

-- A verdict is that the trace is legal, or else how many rows stand in front of the first with which it isn't.
abbrev pub Judges : Profile → Config → List Row → Option ℕ → Type 0
Judges profile config rows None = IsLegalAs profile config rows
Judges profile config rows (Some k) =
    (front : List Row) × (row : Row) × (back : List Row)
    × (rows ≡ front ++ row ∷ back)
    × (length front ≡ k)
    × IsLegalAs profile config front
    × ¬ (IsLegalAs profile config (front ++ row ∷ []))

-- Behind these rows the step is answered so by some collector of the profile, and otherwise by none.
pub record IsOnlyAnswer (profile : Profile) (config : Config) (rows : List Row) (step : Step) (reply : Reply) : Type 0
  where
    pub legal : IsLegalAs profile config (rows ++ record { step = step; reply = reply } ∷ [])
    pub others :
        (other : Reply) → ¬ (reply ≡ other)
        → ¬ (IsLegalAs profile config (rows ++ record { step = step; reply = other } ∷ []))

-- The only answer is named; or, where a collector may have a choice, one that some collector gives there, or none.
abbrev pub NamesAnswerBehind : Profile → Config → List Row → Step → Instead → Type 0
NamesAnswerBehind profile config rows step (Only reply) = IsOnlyAnswer profile config rows step reply
NamesAnswerBehind profile config rows step (Among reply) =
    (has_one step ≡ false) × IsLegalAs profile config (rows ++ record { step = step; reply = reply } ∷ [])
NamesAnswerBehind profile config rows step Untold = has_one step ≡ false
