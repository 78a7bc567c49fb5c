use Rattle.std.proofs.Common.{length}
use Rattle.ref_bench.proofs.delivery_runs.emptied.Given as goal

abbrev pub invariant-loop-notice : goal.invariant-loop-notice
invariant-loop-notice l = Unit {0}

abbrev pub decreases-loop-notice : goal.decreases-loop-notice
decreases-loop-notice l = length l.batch
