use Rattle.ref_share.specs.CleanSeats.{IsCleanSeat}
use Rattle.ref_share.specs.HeapSeats.{IsHeapSeat}
use Rattle.ref_bench.proofs.cleaner_runs.register_and_run.Given as goal

abbrev pub invariant-loop-job : goal.invariant-loop-job
invariant-loop-job g l =
    IsCleanSeat l.user.cleaner.now l.user.seat × IsHeapSeat l.user.heap.now l.user.heap_seat

abbrev pub invariant-loop-job-2 : goal.invariant-loop-job-2
invariant-loop-job-2 g l =
    IsCleanSeat l.user.cleaner.now l.user.seat × IsHeapSeat l.user.heap.now l.user.heap_seat
