use Rattle.ref_share.specs.CleanedHeaps.{HasSeats}
use Rattle.thread_tests.proofs.shares.cleaners.one_thread.use_all.Given as goal

abbrev pub invariant-loop-row : goal.invariant-loop-row
invariant-loop-row g l = HasSeats l.heap
