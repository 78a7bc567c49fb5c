use Rattle.std.proofs.Common.{arith}
use Rattle.ref_judge.proofs.TakenNumbers.{without-more}
use Rattle.ref_judge.proofs.judge.queueing.take_each.Goals as goal

pub loop-no-preserved : goal.loop-no-preserved
loop-no-preserved g c = grind (arith, without-more)
