use Rattle.std.specs.Prelude.{take}
use Rattle.ref_judge.specs.Spreading.{Shades}
use Rattle.ref_judge.proofs.roots.shade_line.Given as goal

-- those so far were marked
abbrev pub invariant-loop-place : goal.invariant-loop-place
invariant-loop-place g l = Shades l.fn.objects l.fn.grey (take l.place l.fn.line.stands) l.objects l.grey
