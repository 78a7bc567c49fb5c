use Rattle.std.proofs.Common.{◌≡◌, take}
use Rattle.ref_judge.specs.Queueing.{without_each}
use Rattle.ref_judge.proofs.judge.queueing.take_each.Given as goal

abbrev pub invariant-loop-no : goal.invariant-loop-no
invariant-loop-no g l =
    l.line ≡ record l.fn.line { stands = without_each l.fn.line.stands (take l.no-index l.fn.numbers) }
