use Rattle.ref_share.specs.HeapSeats.{IsHeapSeat}
use Rattle.ref_bench.proofs.heap_runs.Caller.run.Given as goal

abbrev pub invariant-loop : goal.invariant-loop
invariant-loop g l = IsHeapSeat l.caller.heap.now l.caller.seat
