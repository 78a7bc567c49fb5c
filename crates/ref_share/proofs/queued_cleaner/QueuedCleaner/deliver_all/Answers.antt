use Rattle.ref_share.proofs.Common.{arith, heap_view}
use Rattle.ref_share.specs.Deliveries.{DeliversAll}
use Rattle.ref_share.proofs.SeatLists.{of_one_queue, only_seat}
use Rattle.ref_share.proofs.queued_cleaner.QueuedCleaner.deliver_all.Goals as goal

pub returns-clause-seats : goal.returns-clause-seats
returns-clause-seats g c =
    let seats = c.deliver_all.ensures.seats in
    let own = only_seat _ _ _ seats.1 c.from_ref-queues.ensures.value (omega (arith, c.from_mut-seats.ensures.len)) in
    ((c.requires.seats.0.0, own), seats.0)

pub returns-clause-delivers : goal.returns-clause-delivers
returns-clause-delivers g c =
    of_one_queue
    (λ queues seats after. DeliversAll c.args.worker queues (heap_view c.args.heap_seat.now) seats
    c.deliver_all.result.0 c.deliver_all.result.1 (heap_view c.deliver_all.new.heap_seat) after)
    _ c.args.self.now.queue c.args.seat.now.queue c.from_ref-queues.ensures.value c.from_mut-seats.ensures.value
    (omega (arith, c.from_mut-seats.ensures.len)) c.deliver_all.ensures.calls
