use Rattle.refrun.proofs.Common.{arith}
use Rattle.refrun.proofs.NoEvidence.{has-any, is_given, next_list_lacks}
use Rattle.refrun.proofs.evidence.is_taken.Goals as goal

pub returns-then-contains : goal.returns-then-contains
returns-then-contains g c = grind (arith, is_given, has-any c.as_slice.result.now c.args.number)

pub loop-poller-preserved : goal.loop-poller-preserved
loop-poller-preserved g c = grind (arith, next_list_lacks, has-any c.as_slice.result.now c.args.number)
