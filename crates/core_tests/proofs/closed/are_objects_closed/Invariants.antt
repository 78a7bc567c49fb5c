use Rattle.core_tests.proofs.ClosedLemmas.{ClosedBelow}
use Rattle.core_tests.proofs.closed.are_objects_closed.Given as goal

-- the objects of the numbers up to here are closed
abbrev pub invariant-loop-number : goal.invariant-loop-number
invariant-loop-number g l = ClosedBelow l.fn.heap l.number
