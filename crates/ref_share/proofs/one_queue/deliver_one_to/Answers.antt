use Rattle.ref_share.proofs.Common.{Delivers, arith, heap_view}
use Rattle.ref_base.specs.declared.heap_step.HeapStep.TheVariants as steps
use Rattle.ref_share.proofs.SeatLists.{of_one_queue, only_seat}
use Rattle.ref_share.proofs.one_queue.deliver_one_to.Goals as goal

pub returns-clause-seats : goal.returns-clause-seats
returns-clause-seats g c =
    let seats = c.deliver_one.ensures.seats in
    (seats.0, only_seat _ _ _ seats.1 c.from_ref-queues.ensures.value (omega (arith, c.from_mut-seats.ensures.len)))

pub returns-clause-calls : goal.returns-clause-calls
returns-clause-calls g c =
    of_one_queue
    (λ queues seats after. Delivers (steps.Hand c.args.worker) (heap_view c.args.heap_seat.now) queues seats
    c.deliver_one.result (heap_view c.deliver_one.new.heap_seat) after)
    _ c.args.queue.now c.args.queue_seat.now c.from_ref-queues.ensures.value c.from_mut-seats.ensures.value
    (omega (arith, c.from_mut-seats.ensures.len)) c.deliver_one.ensures.calls
