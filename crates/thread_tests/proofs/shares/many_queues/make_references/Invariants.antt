use Rattle.ref_share.specs.HeapSeats.{IsHeapSeat}
use Rattle.thread_tests.proofs.shares.many_queues.make_references.Given as goal

abbrev pub invariant-loop-queue : goal.invariant-loop-queue
invariant-loop-queue g l = IsHeapSeat l.heap l.seat
