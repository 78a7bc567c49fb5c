use Rattle.ref_share.specs.HeapSeats.{IsHeapSeat}
use Rattle.ref_share.specs.Users.{AreSeated}
use Rattle.thread_tests.proofs.shares.cycles.agree.Given as goal

abbrev pub invariant-loop-row : goal.invariant-loop-row
invariant-loop-row g l = IsHeapSeat l.heap l.seat × AreSeated l.lists.queues.items l.lists.seats.items
