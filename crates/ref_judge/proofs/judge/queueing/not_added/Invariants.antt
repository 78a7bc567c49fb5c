use Rattle.std.proofs.Common.{◌≡◌, ◌≤◌, ◌++◌, drop, length}
use Rattle.ref_base.specs.QueueBatches.{not_added}
use Rattle.ref_judge.proofs.judge.queueing.not_added.Given as goal

abbrev pub invariant-loop-place : goal.invariant-loop-place
invariant-loop-place l = record {
  left : l.left ++ not_added (drop l.place l.fn.numbers) (drop l.place l.fn.told) ≡ not_added l.fn.numbers l.fn.told;
  few : length l.left ≤ l.place;
}
