use Rattle.ref_share.specs.HeapSeats.{IsHeapSeat}
use Rattle.ref_share.specs.QueueSeats.{IsQueueSeat}
use Rattle.ref_bench.proofs.delivery_runs.Road.ask.Given as goal

abbrev pub invariant-loop : goal.invariant-loop
invariant-loop g l =
    IsHeapSeat l.self.heap.now l.self.heap_seat × IsQueueSeat l.self.queue.now l.self.queue_seat

abbrev pub invariant-loop-step : goal.invariant-loop-step
invariant-loop-step g l =
    IsHeapSeat l.self.heap.now l.self.heap_seat × IsQueueSeat l.self.queue.now l.self.queue_seat
