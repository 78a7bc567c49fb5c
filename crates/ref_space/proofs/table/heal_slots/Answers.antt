use Rattle.ref_space.proofs.Common.{◌∙◌, ap, sym, slice_set, arith, map_over_more, place_of_word}
use Rattle.ref_space.specs.Naming.{word_there}
use Rattle.ref_space.proofs.table.heal_slots.Goals as goal

pub loop-word-preserved : goal.loop-word-preserved
loop-word-preserved c =
    ap (slice_set c.loop-word.slots c.loop-word.word-index)
    (c.healed_word.ensures
    ∙ ap (λ v. word_there c.args.good (place_of_word c.args.cells.now c.args.forwards.now v)) (sym c.word-item.is))
    ∙ map_over_more (λ v. word_there c.args.good (place_of_word c.args.cells.now c.args.forwards.now v))
    c.args.slots.now c.loop-word.slots c.loop-word.word-index
    c.word-item.result (omega (arith, c.loop-word-test.true)) c.loop-word.invariant c.word-item.is
