use Rattle.refrun.proofs.Common.{arith, take_all}
use Rattle.refrun.proofs.NoEvidence.{next_list}
use Rattle.refrun.proofs.ListChecks.{not_so, nothing_given, given_next, given_wrongly, gave_all}
use Rattle.refrun.proofs.lists.gives_each_once.Goals as goal

pub loop-list-init : goal.loop-list-init
loop-list-init g c = nothing_given _ c.in_ok-missing.ensures.answer

pub returns-then-not-remove-clause-answer : goal.returns-then-not-remove-clause-answer
returns-then-not-remove-clause-answer g c =
    not_so (given_wrongly (λ v. v.items) c.args.lists.now _ _ _ _ _ (omega arith) c.list-item.is
    c.deref-number-items.ensures.value (omega arith) c.number-item.is c.loop-number.invariant
    c.if-not-remove.ensures.test)

pub loop-number-preserved : goal.loop-number-preserved
loop-number-preserved g c =
    given_next _ _ _ _ (omega arith) c.number-item.is c.loop-number.invariant
    c.if-not-remove.ensures.test _ c.if-not-remove.ensures.updates.0

pub loop-list-preserved : goal.loop-list-preserved
loop-list-preserved g c = grind (arith, take_all, next_list)

pub returns-clause-answer : goal.returns-clause-answer
returns-clause-answer g c =
    gave_all (λ v. v.items) c.args.lists.now _ c.loop-list-test.false c.loop-list.invariant c.is_empty.ensures
