use Rattle.std.proofs.Common.{◌≡◌, ◌*◌, true, take, drop}
use Rattle.std.specs.List.{list_all}
use Rattle.ref_judge.specs.MarkEnding.{passes, spares}
use Rattle.ref_judge.proofs.survivors.are_slots_of_spared.Given as goal

abbrev pub invariant-loop-slot : goal.invariant-loop-slot
invariant-loop-slot g l =
    list_all (passes (spares l.fn.end l.fn.objects.tags)) (take l.slot
    (drop (16 * l.fn.mutator) l.fn.objects.heap.slots))
    ≡ true
