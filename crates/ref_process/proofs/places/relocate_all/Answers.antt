use Rattle.std.proofs.Common.{◌∙◌, ap, sym, arith}
use Rattle.std.specs.Prelude.{slice_set}
use Rattle.std.proofs.lemmas.List.Edits.{map_over_more}
use Rattle.ref_process.specs.Relocations.{relocated_place}
use Rattle.ref_process.proofs.places.relocate_all.Goals as goal

pub loop-place-preserved : goal.loop-place-preserved
loop-place-preserved g c =
    let f = relocated_place (g.M.Moves.moved_to c.args.moves.now) in
    ap (slice_set c.loop-place.places c.loop-place.place-index) (c.relocated_place.ensures ∙ ap f (sym c.place-item.is))
    ∙ map_over_more f c.args.places.now c.loop-place.places c.loop-place.place-index c.place-item.result
    (omega (arith, c.loop-place-test.true)) c.loop-place.invariant c.place-item.is
