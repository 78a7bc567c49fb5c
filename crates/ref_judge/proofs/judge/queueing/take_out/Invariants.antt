use Rattle.std.proofs.Common.{◌≡◌, false, take}
use Rattle.ref_base.specs.Members.{has}
use Rattle.ref_judge.proofs.judge.queueing.take_out.Given as goal

abbrev pub invariant-loop-place : goal.invariant-loop-place
invariant-loop-place g l = record {
  same : l.line-inside ≡ l.initial.line-inside;
  none : has (take l.place l.fn.line.stands) l.fn.no ≡ false;
}
