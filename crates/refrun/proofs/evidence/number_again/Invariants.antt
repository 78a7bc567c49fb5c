use Rattle.refrun.proofs.Common.{nat_eq, take}
use Rattle.std.specs.List.{IsDistinct}
use Rattle.refrun.proofs.evidence.number_again.Given as goal

abbrev pub invariant-loop-place : goal.invariant-loop-place
invariant-loop-place l = IsDistinct nat_eq (take l.place l.list)
