use Rattle.std.specs.Prelude.{◌≡◌, ◌-◌, length, drop}
use Rattle.ref_judge.specs.Finding.{others_from}
use Rattle.ref_judge.proofs.worker.may_others_have_more.Given as goal

abbrev pub invariant-loop-place : goal.invariant-loop-place
invariant-loop-place g l = others_from l.fn.this l.place (drop l.place l.fn.workers) ≡ others_from l.fn.this 0
    l.fn.workers

abbrev pub decreases-loop-place : goal.decreases-loop-place
decreases-loop-place g l = length l.fn.workers - l.place
