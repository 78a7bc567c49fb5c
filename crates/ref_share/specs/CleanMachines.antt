-- The machine of a cleaner's table, one step of it in one turn (this project's profile).
use Rattle.std.specs.Prelude.{◌≡◌, is_some}
use Rattle.ref_queue.specs.CleanTables.{Registry, Registers, Takes, job_of}
use Rattle.ref_share.specs.declared.clean_machine.CleanStep.{CleanStep}
use Rattle.ref_share.specs.declared.clean_machine.CleanStep.TheVariants as steps
use Rattle.ref_share.specs.declared.clean_machine.CleanReply.{CleanReply}
use Rattle.ref_share.specs.declared.clean_machine.CleanReply.TheVariants as replies

module _ {K J : Type 0} where
  -- the step, with this reply, makes one table of the other, as the table's own call does
  abbrev pub IsCleanTurn : Registry K J → CleanStep K J → CleanReply K J → Registry K J → Type 0
  IsCleanTurn t (steps.Register n kept job) (replies.Registered answer) u = Registers t n kept job answer u
  IsCleanTurn t (steps.Take n) (replies.Taken answer) u = Takes t n answer u
  IsCleanTurn t (steps.Has n) (replies.Looked answer) u = (answer ≡ is_some (job_of t n)) × (u ≡ t)
  IsCleanTurn t step reply u = ⊥
