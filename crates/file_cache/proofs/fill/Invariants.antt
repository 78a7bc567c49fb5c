use Rattle.ref_share.specs.CleanedHeaps.{HasSeats}
use Rattle.file_cache.proofs.fill.Given as goal

abbrev pub invariant-loop-key : goal.invariant-loop-key
invariant-loop-key g l = HasSeats l.heap
