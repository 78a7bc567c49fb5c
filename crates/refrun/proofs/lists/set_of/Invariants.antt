use Rattle.refrun.proofs.Common.{◌≡◌, ℕ, take, has}
use Rattle.refrun.proofs.lists.set_of.Given as goal

abbrev pub invariant-loop-number : goal.invariant-loop-number
invariant-loop-number g l = (n : ℕ) → has l.set.keys n ≡ has (take l.number-index l.numbers) n
