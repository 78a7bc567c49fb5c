use Rattle.ref_share.specs.CleanSeats.{IsCleanSeat}
use Rattle.ref_share.specs.HeapSeats.{IsHeapSeat}
use Rattle.ref_share.specs.QueueSeats.{IsQueueSeat}
use Rattle.thread_tests.proofs.shares.cleaners.do_all.Given as goal

abbrev pub invariant-loop-row : goal.invariant-loop-row
invariant-loop-row g l = IsHeapSeat l.shared.heap.now l.chair.seats.heap
    × IsQueueSeat l.shared.queue.now l.chair.seats.queue
    × IsCleanSeat l.shared.cleaner.now l.chair.cleaner
