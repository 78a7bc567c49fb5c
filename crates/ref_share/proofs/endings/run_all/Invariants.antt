use Rattle.ref_share.proofs.Common.{ℕ, length}
use Rattle.ref_share.proofs.JobsLeft.{AreRunOrLeft}
use Rattle.ref_share.proofs.endings.run_all.Given as goal

-- each job was run, or is left
abbrev pub invariant-loop-hold : goal.invariant-loop-hold
invariant-loop-hold g l =
    AreRunOrLeft
    (λ job. (answer : ℕ) × (g.dyn-1.0.entry job.action.vtable).1.post job.action.value (job.number, tt) answer)
    l.fn.table l.table

-- how many jobs are left
abbrev pub decreases-loop-hold : goal.decreases-loop-hold
decreases-loop-hold g l = length l.table.jobs
