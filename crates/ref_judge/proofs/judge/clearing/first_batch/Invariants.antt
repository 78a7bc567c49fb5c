use Rattle.std.proofs.Common.{◌≡◌, ◌≤◌, map, take, length}
use Rattle.ref_base.specs.Refusals.{front_with}
use Rattle.ref_judge.proofs.judge.clearing.first_batch.Given as goal

abbrev pub invariant-loop-place : goal.invariant-loop-place
invariant-loop-place g l = record {
  all : l.place ≤ length (front_with l.fn.first l.pending.items);
  are : l.objects ≡ map (λ p. p.object) (take l.place (front_with l.fn.first l.pending.items));
  few : l.max ≤ 32;
}
