use Rattle.std.proofs.Common.{◌≡◌, ◌*◌, true, take}
use Rattle.std.specs.List.{list_all}
use Rattle.ref_judge.specs.MarkEnding.{passes, spares}
use Rattle.ref_judge.proofs.survivors.are_slots_spared.Given as goal

abbrev pub invariant-loop-mutator : goal.invariant-loop-mutator
invariant-loop-mutator g l =
    list_all (passes (spares l.fn.end l.fn.objects.tags)) (take (16 * l.mutator) l.fn.objects.heap.slots) ≡ true
