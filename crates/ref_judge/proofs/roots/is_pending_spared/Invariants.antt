use Rattle.std.proofs.Common.{◌≡◌, true, take}
use Rattle.std.specs.List.{list_all}
use Rattle.ref_judge.specs.MarkEnding.{spares}
use Rattle.ref_judge.proofs.roots.is_pending_spared.Given as goal

abbrev pub invariant-loop-place : goal.invariant-loop-place
invariant-loop-place g l =
    list_all (λ p. spares l.fn.end l.fn.objects.tags p.object) (take l.place l.fn.worker.pending) ≡ true
