use Rattle.std.proofs.Common.{arith, get_or}
use Rattle.ref_base.specs.declared.heap_step.HeapStep.TheVariants as heap
use Rattle.ref_share.proofs.SeatLists.{of_one_queue, only_seat}
use Rattle.ref_share.specs.Deliveries.{Delivers}
use Rattle.ref_share.specs.HeapSeats.{heap_view}
use Rattle.thread_tests.proofs.DeliveryUses.{was_in_vain}
use Rattle.thread_tests.proofs.uses.deliveries.is_in_vain.Goals as goal

pub returns-in-Ok-clause-seats : goal.returns-in-Ok-clause-seats
returns-in-Ok-clause-seats g c = (
  c.enqueue.ensures.seats.0,
  only_seat _ _ _ c.enqueue.ensures.seats.1 c.from_ref-queues.ensures.value (omega (arith, c.from_mut-own.ensures.len)),
)

pub returns-in-Ok-clause-told : goal.returns-in-Ok-clause-told
returns-in-Ok-clause-told g c vain =
    let calls = c.in-Ok.ensures.calls in
    let v = heap_view c.args.seats.now.heap in
    let w = heap_view c.enqueue.new.heap_seat in
    let seat = c.args.seats.now.queue in
    let after = c.enqueue.new.queue_seats in
    was_in_vain c.args.queue.now seat (get_or after 0 seat) c.in-Ok.is_added (heap.Unhook 0 1) v w calls.0 vain calls.1
    (of_one_queue (λ queues seats left. Delivers (heap.Unhook 0 1) v queues seats calls.0 w left) after
    c.args.queue.now seat c.from_ref-queues.ensures.value c.from_mut-own.ensures.value
    (omega (arith, c.from_mut-own.ensures.len)) calls.2)

pub returns-in-Err-clause-seats : goal.returns-in-Err-clause-seats
returns-in-Err-clause-seats g c = (
  c.enqueue.ensures.seats.0,
  only_seat _ _ _ c.enqueue.ensures.seats.1 c.from_ref-queues.ensures.value (omega (arith, c.from_mut-own.ensures.len)),
)
