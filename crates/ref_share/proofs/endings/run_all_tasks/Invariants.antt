use Rattle.ref_share.proofs.Common.{length}
use Rattle.ref_share.proofs.JobsLeft.{AreRunOrLeft}
use Rattle.ref_share.proofs.endings.run_all_tasks.Given as goal

-- each task was run, or is left
abbrev pub invariant-loop-hold : goal.invariant-loop-hold
invariant-loop-hold g l = AreRunOrLeft g.J.Task.was_run l.fn.table l.table

-- how many tasks are left
abbrev pub decreases-loop-hold : goal.decreases-loop-hold
decreases-loop-hold g l = length l.table.jobs
