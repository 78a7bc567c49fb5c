use Rattle.std.proofs.Common.{length}
use Rattle.thread_tests.proofs.shares.cleaners.left_in.Given as goal

-- how many jobs are left
abbrev pub decreases-loop-hold : goal.decreases-loop-hold
decreases-loop-hold g l = length l.table.jobs
