use Rattle.std.proofs.Common.{All}
use Rattle.ref_share.specs.HeapSeats.{IsHeapSeat}
use Rattle.ref_bench.proofs.heap_runs.callers.Given as goal

abbrev pub invariant-loop-number : goal.invariant-loop-number
invariant-loop-number l =
    IsHeapSeat l.heap l.seat × All (λ c. IsHeapSeat c.heap.now c.seat) l.callers.items
