use Rattle.std.proofs.Common.{◌≡◌, drop}
use Rattle.ref_judge.proofs.judge.clearing.drop_front.Given as goal

abbrev pub invariant-loop-one : goal.invariant-loop-one
invariant-loop-one g l = record {
  found : l.worker-inside.found.items ≡ l.fn.worker.found;
  at : l.worker-inside.at ≡ l.fn.worker.at;
  pending : l.worker-inside.pending.items ≡ drop l._one l.fn.worker.pending;
}
