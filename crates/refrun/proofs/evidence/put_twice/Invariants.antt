use Rattle.refrun.proofs.Common.{◌≡◌, false, nat_eq, take, has}
use Rattle.std.specs.List.{IsDistinct}
use Rattle.refrun.proofs.evidence.put_twice.Given as goal

abbrev pub invariant-loop-again : goal.invariant-loop-again
invariant-loop-again l = IsDistinct nat_eq (take l.again l.enqueued)

abbrev pub invariant-loop-first : goal.invariant-loop-first
invariant-loop-first l = has (take l.first l.enqueued) l.number ≡ false
