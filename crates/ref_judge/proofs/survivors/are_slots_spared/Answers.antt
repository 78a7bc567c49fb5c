use Rattle.std.proofs.Common.{arith, ◌*◌}
use Rattle.ref_judge.specs.MarkEnding.{passes, spares}
use Rattle.ref_judge.proofs.SparedLists.{part_fails, part_passes}
use Rattle.ref_judge.proofs.survivors.are_slots_spared.Goals as goal

pub returns-then-not-are_slots_of_spared : goal.returns-then-not-are_slots_of_spared
returns-then-not-are_slots_of_spared g c =
    grind (
      arith,
      part_fails (passes (spares c.args.end c.args.objects.now.tags)) (16 * c.loop-mutator.mutator) 16
          c.args.objects.now.heap.slots,
    )

pub loop-mutator-preserved : goal.loop-mutator-preserved
loop-mutator-preserved g c =
    grind (
      arith,
      part_passes (passes (spares c.args.end c.args.objects.now.tags)) (16 * c.loop-mutator.mutator) 16
          c.args.objects.now.heap.slots,
    )
