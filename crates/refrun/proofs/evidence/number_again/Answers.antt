use Rattle.refrun.proofs.Common.{arith}
use Rattle.refrun.proofs.NoEvidence.{has-any, next_distinct, none_distinct}
use Rattle.refrun.proofs.evidence.number_again.Goals as goal

pub loop-place-init : goal.loop-place-init
loop-place-init c = none_distinct

pub loop-place-preserved : goal.loop-place-preserved
loop-place-preserved c = grind (arith, next_distinct, has-any)
