use Rattle.ref_share.specs.HeapSeats.{IsHeapSeat}
use Rattle.thread_tests.proofs.shares.many_queues.find_dead.Given as goal

abbrev pub invariant-loop-place : goal.invariant-loop-place
invariant-loop-place g l = IsHeapSeat l.heap l.seat

abbrev pub invariant-loop-place-2 : goal.invariant-loop-place-2
invariant-loop-place-2 g l = IsHeapSeat l.heap l.seat
