use Rattle.ref_share.specs.HeapSeats.{IsHeapSeat}
use Rattle.ref_share.specs.Users.{AreSeated}
use Rattle.thread_tests.proofs.shares.many_queues.deliver_all.Given as goal

abbrev pub invariant-loop-place : goal.invariant-loop-place
invariant-loop-place g l = IsHeapSeat l.heap l.seat × AreSeated l.lists.queues.items l.lists.seats.items
