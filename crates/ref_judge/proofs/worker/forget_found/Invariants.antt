use Rattle.std.specs.Prelude.{◌≡◌, ◌++◌, map, take, drop}
use Rattle.ref_judge.specs.Spreading.{without_found}
use Rattle.ref_judge.proofs.worker.forget_found.Given as goal

-- those so far have found nothing, and the others are as they were
abbrev pub invariant-loop-place : goal.invariant-loop-place
invariant-loop-place g l =
    l.workers.items ≡ map without_found (take l.place l.fn.workers.items) ++ drop l.place l.fn.workers.items
