use Rattle.std.specs.Prelude.{take}
use Rattle.ref_judge.specs.Spreading.{Shades, reported_by}
use Rattle.ref_judge.proofs.roots.shade_hands.Given as goal

-- those so far were marked
abbrev pub invariant-loop-hand : goal.invariant-loop-hand
invariant-loop-hand g l = Shades l.fn.objects l.fn.grey (reported_by (take l.hand-index l.fn.hands)) l.objects l.grey
