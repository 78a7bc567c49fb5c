use Rattle.std.proofs.Common.{◌≡◌, true, take}
use Rattle.std.specs.List.{list_all}
use Rattle.ref_judge.specs.MarkEnding.{spares}
use Rattle.ref_judge.proofs.roots.are_hands_spared.Given as goal

abbrev pub invariant-loop-hand : goal.invariant-loop-hand
invariant-loop-hand g l =
    list_all (λ h. list_all (spares l.fn.end l.fn.objects.tags) h.objects) (take l.hand-index l.fn.hands) ≡ true
