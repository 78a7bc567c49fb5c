use Rattle.refrun.proofs.Common.{◌≡◌, All, IsSeatedAt}
use Rattle.std.specs.Vec.Iter.{into_iter_items}
use Rattle.refrun.proofs.threads.making.all_made.Given as goal

abbrev pub invariant-loop-task : goal.invariant-loop-task
invariant-loop-task g l =
    All (λ task. IsSeatedAt l.shared task) (into_iter_items l.task-iterator)
    × All (λ thread. thread.promise.0.now ≡ l.shared) l.threads.items
