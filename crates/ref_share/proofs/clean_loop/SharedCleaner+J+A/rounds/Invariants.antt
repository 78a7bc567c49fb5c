use Rattle.ref_share.proofs.Common.{clean_view, heap_view, IsHeapSeat, queue_view, IsQueueSeat}
use Rattle.ref_share.proofs.CleanRounds.{GoneSoFar}
use Rattle.ref_share.specs.CleanSeats.{IsCleanSeat}
use Rattle.ref_share.proofs.clean_loop.SharedCleaner+J+A.rounds.Given as goal

abbrev pub invariant-loop : goal.invariant-loop
invariant-loop g l =
    IsCleanSeat l.self l.seat × IsHeapSeat l.heap l.heap_seat × IsQueueSeat l.queue l.queue_seat
    × GoneSoFar (queue_view l.initial.queue_seat) (heap_view l.initial.heap_seat) (clean_view l.initial.seat) l.polling
    l.count (queue_view l.queue_seat) (heap_view l.heap_seat) (clean_view l.seat)
