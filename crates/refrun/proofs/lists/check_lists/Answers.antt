use Rattle.refrun.proofs.ListChecks.{passes, fails, in_order, is_nil, not_nil, lists_same, lists_differ}
use Rattle.refrun.proofs.lists.check_lists.Goals.{then-not-is_empty-via-then-not-is_empty}
use Rattle.refrun.proofs.lists.check_lists.Goals.{then-not-is_empty-via-else-not-is_empty+then-ne}
use Rattle.refrun.proofs.lists.check_lists.Goals as goal

pub returns-then-not-are_in_order-clause-answer : goal.returns-then-not-are_in_order-clause-answer
returns-then-not-are_in_order-clause-answer g c = (
  passes c.in_ok-are_distinct.ensures.answer c.if-not-branch.false,
  λ all. fails c.are_in_order.ensures c.if-not-are_in_order.true
      ((in_order (λ v. v.items) c.args.enqueued.now c.args.lists.now).1 all),
)

pub returns-then-not-branch-2-clause-answer : goal.returns-then-not-branch-2-clause-answer
returns-then-not-branch-2-clause-answer g c = (
  passes c.in_ok-are_distinct.ensures.answer c.if-not-branch.false,
  (in_order (λ v. v.items) c.args.enqueued.now c.args.lists.now).0
      (passes c.are_in_order.ensures c.if-not-are_in_order.false),
  fails c.in_ok-gives_each_once.ensures.answer c.if-not-branch-2.true,
)

pub returns-then-not-is_empty-clause-answer : goal.returns-then-not-is_empty-clause-answer
returns-then-not-is_empty-clause-answer g c = (
  passes c.in_ok-are_distinct.ensures.answer c.if-not-branch.false,
  (in_order (λ v. v.items) c.args.enqueued.now c.args.lists.now).0
      (passes c.are_in_order.ensures c.if-not-are_in_order.false),
  passes c.in_ok-gives_each_once.ensures.answer c.if-not-branch-2.false,
  λ rest. elim c.then-not-is_empty.branch [
    | then-not-is_empty-via-then-not-is_empty w ↦ not_nil _ w.if-not-is_empty.ensures rest.0
    | then-not-is_empty-via-else-not-is_empty+then-ne w ↦ lists_differ _ _ w.if-ne.ensures rest.1
  ],
)

pub returns-then-not-branch-3-clause-answer : goal.returns-then-not-branch-3-clause-answer
returns-then-not-branch-3-clause-answer g c = (
  passes c.in_ok-are_distinct.ensures.answer c.if-not-branch.false,
  (in_order (λ v. v.items) c.args.enqueued.now c.args.lists.now).0
      (passes c.are_in_order.ensures c.if-not-are_in_order.false),
  passes c.in_ok-gives_each_once.ensures.answer c.if-not-branch-2.false,
  (is_nil _ c.if-not-is_empty.ensures, lists_same _ _ c.if-ne.ensures),
  fails c.in_ok-are_put_in.ensures.answer c.if-not-branch-3.true,
)

pub returns-then-not-are_well-clause-answer : goal.returns-then-not-are_well-clause-answer
returns-then-not-are_well-clause-answer g c = (
  passes c.in_ok-are_distinct.ensures.answer c.if-not-branch.false,
  (in_order (λ v. v.items) c.args.enqueued.now c.args.lists.now).0
      (passes c.are_in_order.ensures c.if-not-are_in_order.false),
  passes c.in_ok-gives_each_once.ensures.answer c.if-not-branch-2.false,
  (is_nil _ c.if-not-is_empty.ensures, lists_same _ _ c.if-ne.ensures),
  passes c.in_ok-are_put_in.ensures.answer c.if-not-branch-3.false,
  fails c.are_well.ensures c.if-not-are_well.true,
)

pub returns-clause-answer : goal.returns-clause-answer
returns-clause-answer g c = (
  passes c.in_ok-are_distinct.ensures.answer c.if-not-branch.false,
  (in_order (λ v. v.items) c.args.enqueued.now c.args.lists.now).0
      (passes c.are_in_order.ensures c.if-not-are_in_order.false),
  passes c.in_ok-gives_each_once.ensures.answer c.if-not-branch-2.false,
  (is_nil _ c.if-not-is_empty.ensures, lists_same _ _ c.if-ne.ensures),
  passes c.in_ok-are_put_in.ensures.answer c.if-not-branch-3.false,
  passes c.are_well.ensures c.if-not-are_well.false,
)
