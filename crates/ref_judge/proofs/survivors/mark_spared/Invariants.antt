use Rattle.ref_base.proofs.Common.{numbers}
use Rattle.ref_judge.specs.MarkEnding.{to_walk, EndsTo, IsNextOf}
use Rattle.ref_judge.proofs.survivors.mark_spared.Given as goal

-- what was passed is marked or cleared
abbrev pub invariant-loop-next : goal.invariant-loop-next
invariant-loop-next g l =
    IsNextOf (numbers l.fn.objects.heap.objects) l.next × EndsTo l.next l.fn.end l.fn.objects l.objects

abbrev pub decreases-loop-next : goal.decreases-loop-next
decreases-loop-next g l = to_walk l.next
