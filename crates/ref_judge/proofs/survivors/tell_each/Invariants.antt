use Rattle.std.proofs.Common.{◌≡◌, ◌++◌, map, take, drop, length}
use Rattle.ref_judge.specs.MarkEnding.{told_found}
use Rattle.ref_judge.proofs.survivors.tell_each.Given as goal

-- those so far tell it, and the others are as they were
abbrev pub invariant-loop-place : goal.invariant-loop-place
invariant-loop-place g l =
    (l.worker-inside.found.items
    ≡ map (told_found l.fn.end l.fn.objects) (take l.place l.fn.worker.found) ++ drop l.place l.fn.worker.found)
    × (l.worker-inside.pending.items ≡ l.fn.worker.pending) × (l.worker-inside.at ≡ 0)
    × (l.place-end ≡ length l.fn.worker.found)
