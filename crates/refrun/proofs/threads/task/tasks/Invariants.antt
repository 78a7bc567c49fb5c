use Rattle.refrun.proofs.Common.{All, IsHeapSeat, IsQueueSeat, IsSeatedAt}
use Rattle.std.specs.Vec.Iter.{into_iter_items}
use Rattle.refrun.specs.CleaningSeats.{IsCleanSeated}
use Rattle.refrun.proofs.threads.task.tasks.Given as goal

abbrev pub invariant-loop-cleaning : goal.invariant-loop-cleaning
invariant-loop-cleaning g l =
    IsHeapSeat l.shared.heap l.heap_seat × IsQueueSeat l.shared.queue l.queue_seat
    × All (λ task. IsSeatedAt l.shared task) l.tasks.items
    × All (λ station. IsCleanSeated station) (into_iter_items l.cleaning-iterator)
