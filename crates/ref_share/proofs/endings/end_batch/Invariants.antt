use Rattle.ref_share.proofs.Common.{length}
use Rattle.ref_share.proofs.endings.end_batch.Given as goal

abbrev pub invariant-loop-notice : goal.invariant-loop-notice
invariant-loop-notice g l = Unit {0}

-- what it still holds
abbrev pub decreases-loop-notice : goal.decreases-loop-notice
decreases-loop-notice g l = length l.batch
