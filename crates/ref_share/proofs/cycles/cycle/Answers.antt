use Rattle.ref_share.proofs.Common.{[], Result, ShareFault, refl, inl, inr, subst, heap_view}
use Rattle.ref_share.specs.Deliveries.{DeliversAll}
use Rattle.ref_share.proofs.cycles.cycle.Goals as goal

pub returns-in-Ok-clause-cycles : goal.returns-in-Ok-clause-cycles
returns-in-Ok-clause-cycles g c =
    let d = c.deliver_all-delivered in
    let delivers = subst
    (λ (r : Result (Unit {0}) ShareFault). DeliversAll c.args.worker c.args.queues.now
    (heap_view c.mark_and_clear.new.seat) c.args.queue_seats.now r d.result.1 (heap_view d.new.heap_seat)
    d.new.queue_seats)
    c.in-Ok.is d.ensures.calls in
    inl (
      (heap_view c.mark_and_clear.new.seat, (c.args.queue_seats.now, [])),
      (c.in_default.ensures.goes, refl),
      inl (
        (heap_view d.new.heap_seat, (d.new.queue_seats, d.result.1)),
        delivers,
        (c.phase.ensures.goes, refl),
      ),
    )

pub returns-in-Err-delivered-clause-cycles : goal.returns-in-Err-delivered-clause-cycles
returns-in-Err-delivered-clause-cycles g c =
    let d = c.deliver_all-delivered in
    let delivers = subst
    (λ (r : Result (Unit {0}) ShareFault). DeliversAll c.args.worker c.args.queues.now
    (heap_view c.mark_and_clear.new.seat) c.args.queue_seats.now r d.result.1 (heap_view d.new.heap_seat)
    d.new.queue_seats)
    c.in-Err-delivered.is d.ensures.calls in
    inl (
      (heap_view c.mark_and_clear.new.seat, (c.args.queue_seats.now, [])),
      (c.in_default.ensures.goes, refl),
      inr (c.in-Err-delivered.fault, refl, delivers),
    )
