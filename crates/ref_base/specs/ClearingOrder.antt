-- The order in which a worker's notices were added to a queue, read off the rows and their replay (this project's
-- profile).
use Rattle.std.specs.Prelude.{ℕ, Bool, false, ◌==◌, ◌&&◌, if◌then◌else◌, List, [], ◌∷◌, ◌++◌}
use Rattle.ref_base.specs.Worlds.{World, Notice, first_world, hand_of}
use Rattle.ref_base.specs.Replay.{after}
use Rattle.ref_base.specs.QueueBatches.{added_among}
use Rattle.ref_base.specs.Told.{told_dones}
use Rattle.ref_base.specs.declared.cause.Cause.{Cause}
use Rattle.ref_base.specs.declared.cause.Cause.TheVariants.{Own, Cycle}
use Rattle.ref_base.specs.declared.config.Config.{Config}
use Rattle.ref_base.specs.declared.step.Step.{Step}
use Rattle.ref_base.specs.declared.step.Step.TheVariants as steps
use Rattle.ref_base.specs.declared.reply.Reply.{Reply}
use Rattle.ref_base.specs.declared.row.Row.{Row}

-- whether the cause is a clearing by worker k, in whatever cycle
abbrev pub is_by : ℕ → Cause → Bool
is_by k Own = false
is_by k (Cycle cycle w) = w == k

-- the reference that the notice reports, where worker k cleared it and it is for queue q
abbrev pub if_worked : ℕ → ℕ → Notice → List ℕ
if_worked k q notice = if (notice.queue == q) && is_by k notice.cause then notice.object ∷ [] else []

-- those of several notices, in order
abbrev pub all_worked : ℕ → ℕ → List Notice → List ℕ
all_worked k q [] = []
all_worked k q (notice ∷ rest) = if_worked k q notice ++ all_worked k q rest

-- what one row adds to queue q of what worker k cleared: the references of those notices in the hand that were added
abbrev pub added_by : World → ℕ → ℕ → Step → Reply → List ℕ
added_by w k q (steps.Put who) reply = all_worked k q (added_among (hand_of w who) (told_dones reply))
added_by w k q (steps.Puts who) reply = all_worked k q (added_among (hand_of w who) (told_dones reply))
added_by w k q step reply = []

abbrev pub added_from : World → ℕ → ℕ → List Row → List ℕ
added_from w k q [] = []
added_from w k q (row ∷ rows) =
    added_by w k q row.step row.reply ++ added_from (after w row.step row.reply) k q rows

-- the references that worker k cleared and that a trace added to queue q, in order
abbrev pub added_of : Config → ℕ → ℕ → List Row → List ℕ
added_of config k q rows = added_from (first_world config) k q rows
