use Rattle.std.proofs.Common.{◌≡◌, ◌≤◌, ◌++◌, [], drop, length}
use Rattle.ref_base.specs.QueueBatches.{added_among}
use Rattle.ref_judge.specs.Queueing.{may_become_each}
use Rattle.ref_judge.proofs.judge.queueing.added_by.Given as goal

abbrev pub invariant-loop-place : goal.invariant-loop-place
invariant-loop-place g l = record {
  may : may_become_each l.fn.objects.tags l.added l.fn.is_closed (drop l.place l.fn.numbers) (drop l.place l.fn.told)
      ≡ may_become_each l.fn.objects.tags [] l.fn.is_closed l.fn.numbers l.fn.told;
  added : l.added ++ added_among (drop l.place l.fn.numbers) (drop l.place l.fn.told)
      ≡ added_among l.fn.numbers l.fn.told;
  few : length l.added ≤ l.place;
}
