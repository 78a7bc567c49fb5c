use Rattle.ref_base.proofs.Common.{sym, ap, ◌∙◌, ◌++◌, [], append-nil, map, Pending}
use Rattle.ref_judge.specs.Judged.{Finder}
use Rattle.ref_judge.specs.Spreading.{pending_among}
use Rattle.ref_judge.proofs.SpreadLemmas.{shades_item, pending-parts}
use Rattle.ref_judge.proofs.roots.shade_pending.Goals as goal

pub loop-worker-preserved : goal.loop-worker-preserved
loop-worker-preserved g c =
    shades_item pending_among pending-parts _ _ _ _ _ _ c.worker-item.result _ _ _ c.loop-worker-test.true
    (ap (λ (w : Finder). map (λ (p : Pending). p.object) w.pending ++ []) (sym c.worker-item.is)
    ∙ append-nil (map (λ (p : Pending). p.object) c.worker-item.result.pending))
    c.loop-worker.invariant c.shade_waiting.ensures
