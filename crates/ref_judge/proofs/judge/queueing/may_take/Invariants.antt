use Rattle.std.proofs.Common.{◌≡◌, ◌<◌, true, ℕ}
use Rattle.ref_judge.specs.Queueing.{may_be_next}
use Rattle.ref_judge.proofs.judge.queueing.may_take.Given as goal

abbrev pub invariant-loop-place : goal.invariant-loop-place
invariant-loop-place g l =
    (place : ℕ) → place < l.place → may_be_next l.fn.order l.fn.line.stands l.fn.numbers place ≡ true
