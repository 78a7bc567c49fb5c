use Rattle.ref_share.proofs.Common.{arith, heap_view}
use Rattle.ref_share.specs.Cycles.{Cycles}
use Rattle.ref_share.proofs.SeatLists.{of_one_queue, only_seat}
use Rattle.ref_share.proofs.one_queue.cycle_one.Goals as goal

pub returns-clause-seats : goal.returns-clause-seats
returns-clause-seats g c =
    let seats = c.cycle.ensures.seats in
    (seats.0, only_seat _ _ _ seats.1 c.from_ref-queues.ensures.value (omega (arith, c.from_mut-seats.ensures.len)))

pub returns-clause-cycles : goal.returns-clause-cycles
returns-clause-cycles g c =
    of_one_queue
    (λ queues seats after. Cycles queues c.args.worker c.args.now c.args.urgency (heap_view c.args.heap_seat.now) seats
    c.cycle.result.0 c.cycle.result.1 (heap_view c.cycle.new.heap_seat) after)
    _ c.args.queue.now c.args.queue_seat.now c.from_ref-queues.ensures.value c.from_mut-seats.ensures.value
    (omega (arith, c.from_mut-seats.ensures.len)) c.cycle.ensures.cycles
