use Rattle.ref_share.proofs.Common.{length, heap_view, IsHeapSeat}
use Rattle.ref_share.proofs.ReleasedRest.{GoesOn}
use Rattle.ref_share.proofs.delivery.give_all_back.Given as goal

abbrev pub invariant-loop-notice : goal.invariant-loop-notice
invariant-loop-notice g l =
    IsHeapSeat l.heap l.seat × GoesOn l.initial.batch (heap_view l.initial.seat) l.batch (heap_view l.seat)

abbrev pub decreases-loop-notice : goal.decreases-loop-notice
decreases-loop-notice g l = length l.batch
