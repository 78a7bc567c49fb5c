use Rattle.ref_clear.proofs.Common.{◌≡◌, replicate, no_chain}
use Rattle.std.proofs.Common.{vec_len}
use Rattle.std.specs.Vec.{vec_capacity}
use Rattle.ref_clear.proofs.heap.pending_lists.Given as goal

-- the lists so far are empty, and there is room for the others
abbrev pub invariant-loop-worker : goal.invariant-loop-worker
invariant-loop-worker g l = record {
  are : l.pending.items ≡ replicate l._worker no_chain;
  count : vec_len l.pending ≡ l._worker;
  capacity : vec_capacity l.pending ≡ l.workers;
}
