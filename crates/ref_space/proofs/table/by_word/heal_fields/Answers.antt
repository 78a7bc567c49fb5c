use Rattle.ref_space.proofs.Common.{◌≡◌, ◌<◌, ◌∙◌, ap, sym, arith, length, option_map, set, place_of_word, get_or, ℕ}
use Rattle.ref_space.proofs.Common.{Option, None}
use Rattle.std.proofs.lemmas.List.{length-set}
use Rattle.ref_base.specs.Heaps.{with_field}
use Rattle.ref_space.specs.Naming.{word_there}
use Rattle.ref_space.specs.Places.{cell_at}
use Rattle.ref_space.specs.Tables.{tabled_fields, field_held, on_object, Tabled}
use Rattle.ref_space.proofs.HealCells.{partly, some_partly, partly_more, partly_past, place_same, set_twice, at_own}
use Rattle.ref_space.proofs.HealCells.{read_at, field_is}
use Rattle.ref_space.proofs.table.by_word.heal_fields.Goals as goal

pub loop-field-preserved : goal.loop-field-preserved
loop-field-preserved c =
    let cells = c.args.cells.now in
    let p = c.args.place in
    let i = c.loop-field.field in
    let h : Option ℕ → Option ℕ = λ v. word_there c.args.colour (place_of_word cells c.args.forwards.now v) in
    let so_far : Option Tabled = option_map (partly h i) (cell_at cells p) in
    let inv = c.loop-field.invariant in
    let size : length c.loop-field.cells ≡ length cells = ap length inv.0 ∙ length-set cells p so_far in
    let there : cell_at c.loop-field.cells p ≡ so_far =
    ap (λ cs. cell_at cs p) inv.0 ∙ at_own cells p so_far c.requires.within in
    let read : c.index-cells-place-in-loop-field.result ≡ so_far =
    read_at c.loop-field.cells p c.index-cells-place-in-loop-field.result (omega (arith, size, c.requires.within))
    c.index-cells-place-in-loop-field.is ∙ there in
    let again : c.index-cells-place-in-loop-field-2.result ≡ so_far =
    read_at c.loop-field.cells p c.index-cells-place-in-loop-field-2.result (omega (arith, size, c.requires.within))
    c.index-cells-place-in-loop-field-2.is ∙ there in
    let word : c.word-word.result ≡ get_or (tabled_fields so_far) i None =
    c.word-word.ensures ∙ ap (λ k. field_held k i) (sym c.index-cells-place-in-loop-field.is ∙ read)
    ∙ field_is so_far i in
    let healed : c.healed_word-healed.result ≡ h c.word-word.result =
    c.healed_word-healed.ensures
    ∙ ap (λ cs. word_there c.args.colour (place_of_word cs c.args.forwards.now c.word-word.result)) inv.0
    ∙ ap (word_there c.args.colour)
    (place_same cells p so_far c.args.forwards.now (some_partly h i (cell_at cells p)) c.word-word.result) in
    let within : i < length (tabled_fields (cell_at cells p)) = omega (arith, c.loop-field-test.true, inv.1) in (
      ap (λ cs. set cs p c.set_field.new.self) inv.0 ∙ set_twice cells p so_far c.set_field.new.self
          ∙ ap (set cells p)
          (c.set_field.ensures.after
          ∙ ap (option_map (on_object (with_field i c.healed_word-healed.result)))
          (sym c.index-cells-place-in-loop-field-2.is ∙ again)
          ∙ ap (λ w. option_map (on_object (with_field i w)) so_far) healed
          ∙ partly_more h i (cell_at cells p) c.word-word.result within word),
      inv.1,
    )

pub returns : goal.returns
returns c =
    let cells = c.args.cells.now in
    let h : Option ℕ → Option ℕ = λ v. word_there c.args.colour (place_of_word cells c.args.forwards.now v) in
    let inv = c.loop-field.invariant in
    inv.0
    ∙ ap (set cells c.args.place)
    (partly_past h c.loop-field.field (cell_at cells c.args.place) (omega (arith, c.loop-field-test.false, inv.1)))
