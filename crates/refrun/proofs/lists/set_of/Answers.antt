use Rattle.refrun.proofs.Common.{arith, take_all}
use Rattle.refrun.proofs.ListChecks.{put_more}
use Rattle.refrun.proofs.lists.set_of.Goals as goal

pub loop-number-preserved : goal.loop-number-preserved
loop-number-preserved g c =
    put_more _ _ _ _ (omega arith) c.number-item.is c.loop-number.invariant _ c.in-Ok.ensures.updates.0

pub returns-clause-answer : goal.returns-clause-answer
returns-clause-answer g c = grind (arith, take_all)
