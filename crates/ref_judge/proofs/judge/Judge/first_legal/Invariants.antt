use Rattle.std.proofs.Common.{◌≡◌}
use Rattle.ref_judge.proofs.judge.Judge.first_legal.Given as goal

-- nothing changed yet
abbrev pub invariant-loop-at : goal.invariant-loop-at
invariant-loop-at g l = l.self ≡ l.fn.self
