use Rattle.std.specs.Prelude.{take}
use Rattle.ref_judge.specs.Spreading.{Shades}
use Rattle.ref_judge.proofs.marks.shade_each.Given as goal

-- the numbers so far were marked
abbrev pub invariant-loop-no : goal.invariant-loop-no
invariant-loop-no g l = Shades l.fn.objects l.fn.grey (take l.no-index l.fn.numbers) l.objects l.grey
