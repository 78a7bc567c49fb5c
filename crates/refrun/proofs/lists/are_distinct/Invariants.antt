use Rattle.refrun.proofs.Common.{◌≡◌, ℕ, nat_eq, take, has}
use Rattle.std.specs.List.{IsDistinct}
use Rattle.refrun.proofs.lists.are_distinct.Given as goal

abbrev pub invariant-loop-number : goal.invariant-loop-number
invariant-loop-number g l =
    IsDistinct nat_eq (take l.number-index l.numbers)
    × ((q : ℕ) → has l.seen.keys q ≡ has (take l.number-index l.numbers) q)
