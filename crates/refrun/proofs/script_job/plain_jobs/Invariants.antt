use Rattle.refrun.proofs.Common.{◌≡◌, map}
use Rattle.refrun.specs.JobViews.{answering}
use Rattle.refrun.proofs.script_job.plain_jobs.Given as goal
use Rattle.std.specs.List.{range_with_len}

-- the jobs so far
abbrev pub invariant-loop-number : goal.invariant-loop-number
invariant-loop-number g l = l.jobs.items ≡ map answering (range_with_len 0 l.number)
