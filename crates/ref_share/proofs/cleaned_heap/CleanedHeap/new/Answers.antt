use Rattle.ref_share.proofs.Common.{IsHeapSeat}
use Rattle.ref_share.proofs.SeatLists.{new_seat}
use Rattle.ref_share.proofs.cleaned_heap.CleanedHeap.new.Goals as goal

pub returns-in-Ok-clause-made : goal.returns-in-Ok-clause-made
returns-in-Ok-clause-made g c = record {
  heap = c.in_ok-heap.ensures.made;
  queue = c.in_ok-queue.ensures.made;
  told_by = c.in-Ok.ensures.made.0;
  cleaner = c.in-Ok.ensures.made.1;
}

pub returns-in-Ok-clause-seats : goal.returns-in-Ok-clause-seats
returns-in-Ok-clause-seats g c =
    let heap = c.in_ok-heap.ensures.made in
    let seat : IsHeapSeat c.in_ok-heap.heap c.in_ok-heap.heap_seat =
    rw (heap.config_is, heap.number_is) heap.seat.seat in
    let queue = new_seat c.in_ok-queue.queue 0 0 c.in_ok-queue.queue_seat c.in_ok-queue.ensures.made in
    (seat, queue, c.in-Ok.ensures.made.1.seat)
