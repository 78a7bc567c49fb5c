use Rattle.std.proofs.Common.{length}
use Rattle.core_tests.proofs.clearing.emptied.Given as goal

abbrev pub invariant-loop-notice : goal.invariant-loop-notice
invariant-loop-notice g l = Unit {0}

abbrev pub decreases-loop-notice : goal.decreases-loop-notice
decreases-loop-notice g l = length l.batch
