use Rattle.std.specs.Prelude.{map, take}
use Rattle.ref_judge.specs.Spreading.{Shades}
use Rattle.ref_judge.proofs.roots.shade_waiting.Given as goal

-- those so far were marked
abbrev pub invariant-loop-place : goal.invariant-loop-place
invariant-loop-place g l =
    Shades l.fn.objects l.fn.grey (map (λ p. p.object) (take l.place l.fn.worker.pending)) l.objects l.grey
