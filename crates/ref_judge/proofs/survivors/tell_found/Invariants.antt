use Rattle.std.specs.Prelude.{◌≡◌, ◌++◌, map, take, drop}
use Rattle.ref_judge.specs.MarkEnding.{told_each}
use Rattle.ref_judge.proofs.survivors.tell_found.Given as goal

-- the workers so far tell it, and the others are as they were
abbrev pub invariant-loop-place : goal.invariant-loop-place
invariant-loop-place g l =
    l.workers.items
    ≡ map (told_each l.fn.end l.fn.objects) (take l.place l.fn.workers.items) ++ drop l.place l.fn.workers.items
