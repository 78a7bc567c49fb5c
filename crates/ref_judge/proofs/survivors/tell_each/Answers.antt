use Rattle.std.proofs.Common.{arith, ap, ◌∙◌, slice_set}
use Rattle.std.proofs.lemmas.List.Edits.{map_over_more}
use Rattle.ref_judge.specs.MarkEnding.{told_found}
use Rattle.ref_judge.specs.declared.worker.Found.{Found}
use Rattle.ref_judge.proofs.survivors.tell_each.Goals as goal

pub loop-place-preserved : goal.loop-place-preserved
loop-place-preserved g c =
    let inv = c.loop-place.invariant in
    let own : Found = c.index_mut-found.result.now in (
      ap (λ is. slice_set c.loop-place.worker-inside.found.items c.loop-place.place (record own { is_cleared = is }))
          c.refers_to_doomed-found.ensures
          ∙ map_over_more (told_found c.args.end c.args.objects.now) c.args.worker.now.found
          c.loop-place.worker-inside.found.items c.loop-place.place own (omega (arith, c.loop-place-test.true, inv.3))
          inv.0 c.index_mut-found.ensures.value,
      inv.1,
      inv.2,
      inv.3,
    )
