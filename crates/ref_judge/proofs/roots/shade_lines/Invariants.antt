use Rattle.std.specs.Prelude.{take}
use Rattle.ref_judge.specs.Spreading.{Shades, reported_in}
use Rattle.ref_judge.proofs.roots.shade_lines.Given as goal

-- those so far were marked
abbrev pub invariant-loop-line : goal.invariant-loop-line
invariant-loop-line g l = Shades l.fn.objects l.fn.grey (reported_in (take l.line-index l.fn.lines)) l.objects l.grey
