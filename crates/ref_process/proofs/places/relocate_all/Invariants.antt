use Rattle.std.proofs.Common.{◌≡◌, ◌++◌, map, take, drop}
use Rattle.ref_process.specs.Relocations.{relocated_place}
use Rattle.ref_process.proofs.places.relocate_all.Given as goal

-- the references of the places so far have moved, the others are as they were
abbrev pub invariant-loop-place : goal.invariant-loop-place
invariant-loop-place g l =
    l.places ≡ map (relocated_place (g.M.Moves.moved_to l.fn.moves)) (take l.place-index l.fn.places)
    ++ drop l.place-index l.fn.places
