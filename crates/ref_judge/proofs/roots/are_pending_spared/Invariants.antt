use Rattle.std.proofs.Common.{◌≡◌, true, take}
use Rattle.std.specs.List.{list_all}
use Rattle.ref_judge.specs.MarkEnding.{spares}
use Rattle.ref_judge.proofs.roots.are_pending_spared.Given as goal

abbrev pub invariant-loop-worker : goal.invariant-loop-worker
invariant-loop-worker g l =
    list_all (λ w. list_all (λ p. spares l.fn.end l.fn.objects.tags p.object) w.pending)
    (take l.worker-index l.fn.workers) ≡ true
