use Rattle.refrun.proofs.Common.{◌≡◌, ℕ, true, false, take, has}
use Rattle.refrun.proofs.evidence.number_of_both.Given as goal

abbrev pub invariant-loop-number : goal.invariant-loop-number
invariant-loop-number l = (n : ℕ) → has (take l.number-index l.list) n ≡ true → has l.others n ≡ false
