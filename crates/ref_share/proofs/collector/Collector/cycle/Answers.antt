use Rattle.ref_share.proofs.Common.{◌≡◌, length, ap, arith, inl, subst, heap_view}
use Rattle.ref_share.proofs.SeatLists.{written_over}
use Rattle.ref_share.specs.Cycles.{Cycles}
use Rattle.ref_share.proofs.collector.Collector.cycle.Goals as goal

pub invariant_of-self-2 : goal.invariant_of-self-2
invariant_of-self-2 g c =
    let after = c.cycle-answer.new.queue_seats in
    let even : length after ≡ length c.queues.inside.seats.items =
    omega (arith, c.cycle-answer.auto.queue_seats, ap length c.deref_mut.ensures.value) in
    let seats = c.queues.inside.seats in
    let back = written_over after seats.items seats.len seats.ok.0 even in
    rw back (c.cycle-answer.ensures.seats.1, omega (arith, even, c.queues.invariant.1))

pub returns-clause-cycles : goal.returns-clause-cycles
returns-clause-cycles g c =
    let after = c.cycle-answer.new.queue_seats in
    let even : length after ≡ length c.queues.inside.seats.items =
    omega (arith, c.cycle-answer.auto.queue_seats, ap length c.deref_mut.ensures.value) in
    let seats = c.queues.inside.seats in
    let back = written_over after seats.items seats.len seats.ok.0 even in
    let worker = c.args.self.now.worker in
    let last = heap_view c.cycle-answer.new.heap_seat in
    let seated = subst
    (λ seats. Cycles c.queues.inside.queues.now worker c.args.now c.args.urgency (heap_view c.heap.inside.seat) seats
    c.cycle-answer.result.0 c.cycle-answer.result.1 last after) c.deref_mut.ensures.value
    c.cycle-answer.ensures.cycles in
    let queued = subst
    (λ q. Cycles q.queues worker c.args.now c.args.urgency (heap_view c.heap.inside.seat) q.seats
    c.cycle-answer.result.0 c.cycle-answer.result.1 last after) c.queues.view_is seated in
    let used = subst
    (λ u. Cycles c.args.self.now.queues.queues worker c.args.now c.args.urgency (heap_view u.seat)
    c.args.self.now.queues.seats c.cycle-answer.result.0 c.cycle-answer.result.1 last after) c.heap.view_is queued in
    rw back (inl (c.cycle-answer.result.1, used))
