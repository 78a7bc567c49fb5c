use Rattle.ref_share.specs.HeapSeats.{IsHeapSeat}
use Rattle.ref_share.specs.QueueSeats.{IsQueueSeat}
use Rattle.ref_bench.proofs.delivery_runs.Road.one_by_one.Given as goal

abbrev pub invariant-loop : goal.invariant-loop
invariant-loop g l =
    IsHeapSeat l.self.heap.now l.self.heap_seat × IsQueueSeat l.self.queue.now l.self.queue_seat

abbrev pub invariant-loop-2 : goal.invariant-loop-2
invariant-loop-2 g l =
    IsHeapSeat l.self.heap.now l.self.heap_seat × IsQueueSeat l.self.queue.now l.self.queue_seat
