use Rattle.ref_space.proofs.Common.{◌≡◌, ◌∙◌, ◌<◌, ap, sym, set, take, get_or, arith, map_over_more, length-set}
use Rattle.ref_space.specs.ColouredWords.{recoloured}
use Rattle.std.proofs.Math.Seq.{take-set-lt}
use Rattle.std.proofs.lemmas.List.{get_or-take}
use Rattle.ref_space.proofs.field_words.Words.recolour.Goals as goal

pub loop-field-preserved : goal.loop-field-preserved
loop-field-preserved c =
    let inv = c.loop-field.invariant in
    let count = c.loop-field.self-inside.count in
    let held = c.loop-field.self-inside.held in
    let word = c.index-self-field.result in
    let within : c.loop-field.field < count = omega (arith, c.loop-field-test.true, inv.1, inv.4) in
    let read : word ≡ get_or (take count held) c.loop-field.field word =
    c.index-self-field.is ∙ sym (get_or-take count held c.loop-field.field word within) in (
      take-set-lt count held c.loop-field.field c.in_colour.result within
          ∙ ap (set (take count held) c.loop-field.field)
          (c.in_colour.ensures ∙ ap (recoloured c.args.colour) (sym c.index-self-field.is))
          ∙ map_over_more (recoloured c.args.colour) c.args.self.now (take count held) c.loop-field.field word
          (omega (arith, within, inv.1)) inv.0 read,
      inv.1,
      length-set held c.loop-field.field c.in_colour.result ∙ inv.2,
      inv.3,
      inv.4,
    )
