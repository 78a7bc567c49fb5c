use Rattle.std.proofs.Common.{arith, ◌*◌, None}
use Rattle.ref_judge.specs.MarkEnding.{passes, spares}
use Rattle.ref_judge.proofs.SparedLists.{part_fails_at, part_more}
use Rattle.ref_judge.proofs.survivors.are_slots_of_spared.Goals as goal
use Rattle.ref_judge.proofs.survivors.are_slots_of_spared.Goals.{in-Ok-Some+else-not-is_spared, in-Ok+in-None-1}
use Rattle.ref_judge.proofs.survivors.are_slots_of_spared.Goals.{in-Err-1}

pub returns-then-not-is_spared : goal.returns-then-not-is_spared
returns-then-not-is_spared g c =
    grind (
      arith,
      part_fails_at (passes (spares c.args.end c.args.objects.now.tags)) (16 * c.args.mutator) 16 c.loop-slot.slot
          c.args.objects.now.heap.slots None,
    )

pub loop-slot-preserved : goal.loop-slot-preserved
loop-slot-preserved g c =
    grind (
      arith,
      part_more (passes (spares c.args.end c.args.objects.now.tags)) (16 * c.args.mutator) c.loop-slot.slot
          c.args.objects.now.heap.slots None,
    )
