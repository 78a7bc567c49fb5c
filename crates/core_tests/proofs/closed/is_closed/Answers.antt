use Rattle.core_tests.proofs.ClosedLemmas.{both_on_true, closed_all}
use Rattle.core_tests.proofs.closed.is_closed.Goals as goal

pub returns-then-are_slots_closed : goal.returns-then-are_slots_closed
returns-then-are_slots_closed g c =
    both_on_true c.are_objects_closed.result c.are_objects_closed.ensures.held c.are_objects_closed.ensures.names
    (closed_all c.args.heap.now c.if-are_slots_closed.ensures)
