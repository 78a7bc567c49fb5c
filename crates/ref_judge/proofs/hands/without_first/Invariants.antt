use Rattle.std.proofs.Common.{◌≡◌, take, ◌<◌, length}
use Rattle.ref_judge.proofs.hands.without_first.Given as goal

abbrev pub invariant-loop-number : goal.invariant-loop-number
invariant-loop-number l = (l.rest ≡ take l.number-index l.behind) × (length l.behind < 32)
