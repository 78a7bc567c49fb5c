use Rattle.std.specs.Prelude.{◌+◌, length}
use Rattle.ref_objects.specs.Grounds.{unmarked}
use Rattle.ref_judge.specs.Spreading.{Follows}
use Rattle.ref_judge.proofs.marks.follow.Given as goal

abbrev pub invariant-loop-entry : goal.invariant-loop-entry
invariant-loop-entry g l = Follows l.fn.policy l.fn.objects l.fn.grey l.objects l.grey

-- each round takes one of the grey, and each that becomes grey isn't unmarked any more
abbrev pub decreases-loop-entry : goal.decreases-loop-entry
decreases-loop-entry g l = length l.grey.stands + length (unmarked l.objects.heap.objects l.objects.marked)
