use Rattle.ref_space.proofs.Common.{◌≡◌, ◌++◌, map, take, drop, place_of_word}
use Rattle.ref_space.specs.Naming.{word_there}
use Rattle.ref_space.proofs.table.heal_slots.Given as goal

-- the words so far are healed, the others are as they were
abbrev pub invariant-loop-word : goal.invariant-loop-word
invariant-loop-word l =
    l.slots ≡ map (λ v. word_there l.fn.good (place_of_word l.fn.cells l.fn.forwards v))
    (take l.word-index l.fn.slots) ++ drop l.word-index l.fn.slots
