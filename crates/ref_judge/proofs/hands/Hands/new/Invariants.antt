use Rattle.std.proofs.Common.{◌≡◌, vec_len, replicate}
use Rattle.std.specs.Vec.{vec_capacity}
use Rattle.ref_judge.specs.Judged.{no_hand}
use Rattle.ref_judge.proofs.hands.Hands.new.Given as goal

abbrev pub invariant-loop-mutator : goal.invariant-loop-mutator
invariant-loop-mutator g l = record {
  are : l.mutators.items ≡ replicate l._mutator no_hand;
  count : vec_len l.mutators ≡ l._mutator;
  room : vec_capacity l.mutators ≡ l.config.mutators;
}

abbrev pub invariant-loop-worker : goal.invariant-loop-worker
invariant-loop-worker g l = record {
  are : l.workers.items ≡ replicate l._worker no_hand;
  count : vec_len l.workers ≡ l._worker;
  room : vec_capacity l.workers ≡ l.fn.config.workers;
}
