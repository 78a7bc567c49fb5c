use Rattle.std.specs.Prelude.{take}
use Rattle.ref_base.specs.Paths.{present}
use Rattle.ref_judge.specs.Spreading.{Shades}
use Rattle.ref_judge.proofs.marks.shade_slots.Given as goal

-- what the slots so far hold was marked
abbrev pub invariant-loop-place : goal.invariant-loop-place
invariant-loop-place g l =
    Shades l.fn.objects l.fn.grey (present (take l.place l.fn.objects.heap.slots)) l.objects l.grey
