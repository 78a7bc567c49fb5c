use Rattle.ref_base.proofs.Common.{arith, ap, ◌∙◌, slice_set}
use Rattle.std.proofs.lemmas.List.Edits.{map_over_more}
use Rattle.ref_judge.specs.MarkEnding.{told_each}
use Rattle.ref_judge.proofs.survivors.tell_found.Goals as goal

pub loop-place-preserved : goal.loop-place-preserved
loop-place-preserved g c =
    ap (slice_set c.loop-place.workers.items c.loop-place.place) c.tell_each.ensures
    ∙ map_over_more (told_each c.args.end c.args.objects.now) c.args.workers.now.items c.loop-place.workers.items
    c.loop-place.place c.index_mut.result.now (omega (arith, c.loop-place-test.true, c.len-place-end.ensures))
    c.loop-place.invariant c.index_mut.ensures.value
