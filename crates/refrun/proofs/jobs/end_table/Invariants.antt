use Rattle.refrun.proofs.Common.{length}
use Rattle.refrun.proofs.jobs.end_table.Given as goal

-- how many jobs are left
abbrev pub decreases-loop-job : goal.decreases-loop-job
decreases-loop-job g l = length l.table.jobs
