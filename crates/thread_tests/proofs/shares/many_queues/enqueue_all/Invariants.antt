use Rattle.ref_share.specs.HeapSeats.{IsHeapSeat}
use Rattle.ref_share.specs.Users.{AreSeated}
use Rattle.thread_tests.proofs.shares.many_queues.enqueue_all.Given as goal

abbrev pub invariant-loop-queue : goal.invariant-loop-queue
invariant-loop-queue g l = IsHeapSeat l.heap l.seat × AreSeated l.lists.queues.items l.lists.seats.items

abbrev pub invariant-loop-want : goal.invariant-loop-want
invariant-loop-want g l = IsHeapSeat l.heap l.seat × AreSeated l.lists.queues.items l.lists.seats.items
