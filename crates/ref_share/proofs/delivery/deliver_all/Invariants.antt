use Rattle.ref_share.proofs.Common.{◌≡◌, ℕ, [], AreSeats, IsHeapSeat, heap_view}
use Rattle.ref_share.specs.Deliveries.{DeliversSome}
use Rattle.ref_share.specs.Repeats.{Repeats}
use Rattle.ref_share.proofs.delivery.deliver_all.Given as goal

-- so many batches were delivered, and none is left of them
abbrev pub invariant-loop : goal.invariant-loop
invariant-loop g l = record {
  seats : IsHeapSeat l.heap l.heap_seat × AreSeats l.queues l.queue_seats;
  none : l.batch ≡ [];
  delivered : (count : ℕ) × Repeats (DeliversSome l.worker l.queues) count
      (heap_view l.fn.heap_seat, l.fn.queue_seats) (heap_view l.heap_seat, l.queue_seats);
}
