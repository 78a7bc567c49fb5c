use Rattle.ref_space.proofs.Common.{◌≡◌, length, option_map, set, place_of_word}
use Rattle.ref_space.specs.Naming.{word_there}
use Rattle.ref_space.specs.Places.{cell_at}
use Rattle.ref_space.specs.Tables.{tabled_fields}
use Rattle.ref_space.proofs.HealCells.{partly}
use Rattle.ref_space.proofs.table.by_word.heal_fields.Given as goal

-- the fields so far are healed, the others are as they were
abbrev pub invariant-loop-field : goal.invariant-loop-field
invariant-loop-field l =
    (l.cells
    ≡ set l.fn.cells l.fn.place
    (option_map (partly (λ v. word_there l.fn.colour (place_of_word l.fn.cells l.fn.forwards v)) l.field)
    (cell_at l.fn.cells l.fn.place)))
    × (l.field-end ≡ length (tabled_fields (cell_at l.fn.cells l.fn.place)))
