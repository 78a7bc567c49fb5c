-- The order in which a worker cleared references, read off the rows alone (this project's profile).
use Rattle.std.specs.Prelude.{ℕ, Bool, true, false, ◌==◌, ◌&&◌, if◌then◌else◌, List, [], ◌∷◌, ◌++◌, Option, Some, None}
use Rattle.ref_base.specs.declared.plain_step.PlainStep.TheVariants as plain
use Rattle.ref_base.specs.declared.step.Step.{Step}
use Rattle.ref_base.specs.declared.step.Step.TheVariants as steps
use Rattle.ref_base.specs.declared.reply.Reply.{Reply}
use Rattle.ref_base.specs.declared.reply.Reply.TheVariants as replies
use Rattle.ref_base.specs.declared.row.Row.{Row}

-- whether the row made reference n, registered with queue q
abbrev pub registers : ℕ → ℕ → Step → Reply → Bool
registers n q (steps.Plain (plain.Refer m strength d s (Some k) fields)) (replies.Object o) = (o == n) && (k == q)
registers n q step reply = false

-- whether a row made reference n, registered with queue q
abbrev pub is_registered : List Row → ℕ → ℕ → Bool
is_registered [] n q = false
is_registered (row ∷ rows) n q = if registers n q row.step row.reply then true else is_registered rows n q

-- the reference that the row cleared for worker k
abbrev pub cleared_by : ℕ → Step → Reply → Option ℕ
cleared_by k (steps.Plain (plain.ClearNext w)) (replies.Cleared n) = if w == k then Some n else None
cleared_by k step reply = None

abbrev pub if_registered : List Row → ℕ → Option ℕ → List ℕ
if_registered trace q None = []
if_registered trace q (Some n) = if is_registered trace n q then n ∷ [] else []

-- of some rows of a trace: the references that worker k cleared and that are registered with queue q, in order
abbrev pub cleared_in : List Row → ℕ → ℕ → List Row → List ℕ
cleared_in trace k q [] = []
cleared_in trace k q (row ∷ rows) =
    if_registered trace q (cleared_by k row.step row.reply) ++ cleared_in trace k q rows

-- the references that worker k cleared in a trace and that are registered with queue q, in order
abbrev pub clearing_order : List Row → ℕ → ℕ → List ℕ
clearing_order trace k q = cleared_in trace k q trace
