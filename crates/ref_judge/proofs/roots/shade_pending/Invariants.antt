use Rattle.std.specs.Prelude.{take}
use Rattle.ref_judge.specs.Spreading.{Shades, pending_among}
use Rattle.ref_judge.proofs.roots.shade_pending.Given as goal

-- those so far were marked
abbrev pub invariant-loop-worker : goal.invariant-loop-worker
invariant-loop-worker g l = Shades l.fn.objects l.fn.grey (pending_among (take l.worker-index l.fn.workers)) l.objects
    l.grey
