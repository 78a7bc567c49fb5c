use Rattle.ref_mark.proofs.Common.{◌≡◌, replicate, no_chain}
use Rattle.std.proofs.Common.{vec_len}
use Rattle.std.specs.Vec.{vec_capacity}
use Rattle.ref_mark.proofs.marker.worklists.Given as goal

-- the lists so far are empty, and there is room for the others
abbrev pub invariant-loop-worker : goal.invariant-loop-worker
invariant-loop-worker g l = record {
  are : l.found.items ≡ replicate l._worker no_chain;
  count : vec_len l.found ≡ l._worker;
  capacity : vec_capacity l.found ≡ l.workers;
}
