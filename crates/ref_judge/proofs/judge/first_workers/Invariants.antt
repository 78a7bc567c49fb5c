use Rattle.std.proofs.Common.{◌≡◌, vec_len, replicate}
use Rattle.std.specs.Vec.{vec_capacity}
use Rattle.ref_judge.specs.Judged.{no_finder}
use Rattle.ref_judge.proofs.judge.first_workers.Given as goal

abbrev pub invariant-loop-worker : goal.invariant-loop-worker
invariant-loop-worker g l = record {
  are : l.workers.items ≡ replicate l._worker no_finder;
  count : vec_len l.workers ≡ l._worker;
  room : vec_capacity l.workers ≡ l.fn.count;
}
