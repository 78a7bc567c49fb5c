use Rattle.refrun.proofs.Common.{All, IsHeapSeat, IsQueueSeat}
use Rattle.std.specs.Vec.Iter.{into_iter_items}
use Rattle.refrun.specs.StressSeats.{IsLeftAt}
use Rattle.refrun.proofs.threads.task.joined.Given as goal

abbrev pub invariant-loop-left : goal.invariant-loop-left
invariant-loop-left l =
    IsHeapSeat l.shared.heap l.heap_seat × IsQueueSeat l.shared.queue l.queue_seat
    × All (λ left. IsLeftAt l.shared left) (into_iter_items l.left-iterator)
