use Rattle.ref_space.proofs.Common.{◌≡◌, ◌≤◌, ◌++◌, length, map, take, drop}
use Rattle.ref_space.specs.ColouredWords.{recoloured}
use Rattle.ref_space.proofs.field_words.Words.recolour.Given as goal

-- the fields so far have the colour, the others are as they were
abbrev pub invariant-loop-field : goal.invariant-loop-field
invariant-loop-field l =
    (take l.self-inside.count l.self-inside.held
    ≡ map (recoloured l.fn.colour) (take l.field l.fn.self) ++ drop l.field l.fn.self)
    × (l.self-inside.count ≡ length l.fn.self) × (length l.self-inside.held ≡ 8) × (l.self-inside.count ≤ 8)
    × (l.field-end ≡ length l.fn.self)
