use Rattle.refrun.proofs.Common.{◌≡◌, ℕ, true, take, has}
use Rattle.refrun.proofs.evidence.number_outside.Given as goal

abbrev pub invariant-loop-number : goal.invariant-loop-number
invariant-loop-number l = (n : ℕ) → has (take l.number-index l.list) n ≡ true → has l.others n ≡ true
