use Rattle.std.proofs.Common.{sym, subst, ◌∙◌, arith}
use Rattle.core_tests.proofs.ClosedLemmas.{ClosedBelow, closed_first, closed_last, closed_none}
use Rattle.core_tests.proofs.closed.are_objects_closed.Goals as goal

pub returns-in_default-clause-held : goal.returns-in_default-clause-held
returns-in_default-clause-held g c =
    (closed_none c.args.heap.now c.known.ensures (sym c.in_default.is ∙ c.first_from.ensures)).0

pub returns-in_default-clause-names : goal.returns-in_default-clause-names
returns-in_default-clause-names g c =
    (closed_none c.args.heap.now c.known.ensures (sym c.in_default.is ∙ c.first_from.ensures)).1

pub loop-number-init : goal.loop-number-init
loop-number-init g c =
    subst (λ k. ClosedBelow c.args.heap.now k) (sym (c.from-number.ensures ∙ c.first.view_is))
    (closed_first c.args.heap.now c.known.ensures c.in-Some.first (sym c.in-Some.is ∙ c.first_from.ensures))

pub returns-clause-held : goal.returns-clause-held
returns-clause-held g c =
    (closed_last c.args.heap.now c.known.ensures c.loop-number.number
    (omega (arith, c.loop-number-test.false, c.next_no-number-end.ensures)) c.loop-number.invariant).0

pub returns-clause-names : goal.returns-clause-names
returns-clause-names g c =
    (closed_last c.args.heap.now c.known.ensures c.loop-number.number
    (omega (arith, c.loop-number-test.false, c.next_no-number-end.ensures)) c.loop-number.invariant).1
