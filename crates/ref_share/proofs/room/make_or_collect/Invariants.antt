use Rattle.ref_share.proofs.Common.{◌≡◌, List, [], ◌∷◌, Result, HeldNotice, HeapView}
use Rattle.ref_share.proofs.Common.{QueueSeat, Reply, ShareFault, AreSeats}
use Rattle.ref_share.proofs.Common.{IsHeapSeat, heap_view}
use Rattle.std.proofs.Common.{drop}
use Rattle.ref_base.specs.declared.urgency.Urgency.TheVariants.{Normal, Urgent}
use Rattle.ref_share.specs.WantsOfRoom.{DoesAfter}
use Rattle.ref_share.proofs.room.make_or_collect.Given as goal

-- what the cycles that are left lead to, all of them lead to
abbrev pub invariant-loop-urgency : goal.invariant-loop-urgency
invariant-loop-urgency g l = record {
  seats : IsHeapSeat l.heap l.heap_seat × AreSeats l.queues l.queue_seats;
  none : l.batch ≡ [];
  leads : (result : Result Reply ShareFault) (left : List HeldNotice) (w : HeapView) (after : List QueueSeat)
      → DoesAfter l.queues l.worker l.now l.step (drop l.urgency-index (Normal ∷ Urgent ∷ [])) (heap_view l.heap_seat)
      l.queue_seats result left w after
      → DoesAfter l.queues l.worker l.now l.step (Normal ∷ Urgent ∷ []) (heap_view l.fn.heap_seat) l.fn.queue_seats
      result left w after;
}
