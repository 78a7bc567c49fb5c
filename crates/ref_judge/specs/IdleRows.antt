-- Idle rows, which may be left out of a trace (this project's): those that were refused, and those in which a worker
-- found nothing to do.
use Rattle.std.specs.Prelude.{◌≡◌, Bool, true, false, List, [], ◌∷◌, ◌⊎◌}
use Rattle.ref_base.specs.declared.plain_step.PlainStep.TheVariants as plain
use Rattle.ref_base.specs.declared.step.Step.{Step}
use Rattle.ref_base.specs.declared.step.Step.TheVariants as steps
use Rattle.ref_base.specs.declared.reply.Reply.{Reply}
use Rattle.ref_base.specs.declared.reply.Reply.TheVariants as replies
use Rattle.ref_base.specs.declared.row.Row.{Row}

-- whether `none` of the step says that it found nothing to do: an unhook that answers `none` clears its reference
abbrev pub none_is_idle : Step → Bool
none_is_idle (steps.Plain (plain.Scan k)) = true
none_is_idle (steps.Plain (plain.ClearNext k)) = true
none_is_idle (steps.Plain (plain.Sweep k)) = true
none_is_idle (steps.Plain (plain.MoveNext k)) = true
none_is_idle (steps.Hand k) = true
none_is_idle (steps.Hands k max) = true
none_is_idle step = false

-- whether a step that was answered so left all as it was
abbrev pub is_idle_answer : Step → Reply → Bool
is_idle_answer step (replies.Refused fault) = true
is_idle_answer step replies.Nothing = none_is_idle step
is_idle_answer step reply = false

abbrev pub is_idle : Row → Bool
is_idle row = is_idle_answer row.step row.reply

-- the second list is the first, in order, without some of its idle rows
abbrev pub LeavesOut : List Row → List Row → Type 0
LeavesOut [] [] = Unit {0}
LeavesOut [] (first ∷ kept) = ⊥
LeavesOut (row ∷ rows) [] = (is_idle row ≡ true) × LeavesOut rows []
LeavesOut (row ∷ rows) (first ∷ kept) =
    ((first ≡ row) × LeavesOut rows kept) ⊎ ((is_idle row ≡ true) × LeavesOut rows (first ∷ kept))
