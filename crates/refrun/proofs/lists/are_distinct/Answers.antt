use Rattle.refrun.proofs.Common.{arith}
use Rattle.refrun.proofs.ListChecks.{not_so, put_more, distinct_more, stands_twice}
use Rattle.refrun.proofs.lists.are_distinct.Goals as goal

pub returns-then-not-is_new-clause-answer : goal.returns-then-not-is_new-clause-answer
returns-then-not-is_new-clause-answer g c =
    not_so (stands_twice _ _ _ _ (omega arith) c.number-item.is c.loop-number.invariant.1
    c.in-Ok.ensures.added c.if-not-is_new.true)

pub loop-number-preserved : goal.loop-number-preserved
loop-number-preserved g c = (
  distinct_more _ _ _ _ (omega arith) c.number-item.is c.loop-number.invariant.1 c.in-Ok.ensures.added
      c.if-not-is_new.false c.loop-number.invariant.0,
  put_more _ _ _ _ (omega arith) c.number-item.is c.loop-number.invariant.1 _ c.in-Ok.ensures.updates.0,
)
