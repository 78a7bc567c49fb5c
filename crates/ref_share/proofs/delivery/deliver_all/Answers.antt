use Rattle.ref_share.proofs.Common.{Option, Result, suc, subst, ap, refl, ◌∙◌, false≢true, IsSome, ShareFault}
use Rattle.ref_share.proofs.Common.{heap_view}
use Rattle.std.specs.Prelude.{not}
use Rattle.ref_base.specs.Outs.{Outs}
use Rattle.ref_share.proofs.Places.{delivered_leaves_none, none_delivered, some_delivered}
use Rattle.ref_share.specs.Deliveries.{DeliversBatch}
use Rattle.ref_share.proofs.delivery.deliver_all.Goals.{in-None, in-Some+in-Ok+then-is_none}
use Rattle.ref_share.proofs.delivery.deliver_all.Goals as goal

pub loop-init : goal.loop-init
loop-init g c = record { seats = c.requires.seats; none = c.requires.empty; delivered = (0, refl) }

pub loop-preserved : goal.loop-preserved
loop-preserved g c =
    let before = c.loop.invariant.delivered in
    let d = c.deliver_batch-answer in
    let v = heap_view c.loop.heap_seat in
    let w = heap_view d.new.heap_seat in
    let told = subst
    (λ (r : Result (Option Outs) ShareFault). DeliversBatch c.args.worker 32 v c.args.queues.now c.loop.queue_seats r
    d.result.1 w d.new.queue_seats)
    c.in-Ok.is d.ensures.calls in
    let some = some_delivered c.args.queues.now c.loop.queue_seats d.new.queue_seats c.args.worker v c.in-Ok.given
    d.result.1 w (c.is_none.ensures ∙ ap not c.if-is_none.false) told in record {
      seats = d.ensures.seats;
      none = some.0;
      delivered = (suc before.0, ((v, c.loop.queue_seats), before.1, some.1));
    }

pub returns-clause-seats : goal.returns-clause-seats
returns-clause-seats g c =
    elim c.match-next.branch [
      | in-None w ↦ absurd (false≢true (subst IsSome w.in-None.is c.next.ensures.steps))
      | in-Some+in-Ok+then-is_none w ↦ rw (w.heap_seat-is, w.queue_seats-is) w.deliver_batch-answer.ensures.seats
    ]

pub returns-clause-calls : goal.returns-clause-calls
returns-clause-calls g c =
    elim c.match-next.branch [
      | in-None w ↦ absurd (false≢true (subst IsSome w.in-None.is c.next.ensures.steps))
      | in-Some+in-Ok+then-is_none w ↦
          let before = c.loop.invariant.delivered in
          let d = w.deliver_batch-answer in
          let told = subst
          (λ (r : Result (Option Outs) ShareFault). DeliversBatch c.args.worker 32 (heap_view c.loop.heap_seat)
          c.args.queues.now c.loop.queue_seats r d.result.1 (heap_view d.new.heap_seat) d.new.queue_seats)
          w.in-Ok.is d.ensures.calls in
          let last = none_delivered c.args.queues.now c.loop.queue_seats d.new.queue_seats c.args.worker
          (heap_view c.loop.heap_seat) w.in-Ok.given d.result.1 (heap_view d.new.heap_seat)
          (w.is_none.ensures ∙ ap not w.if-is_none.true) told in
          rw (w.heap_seat-is, w.queue_seats-is, w.batch-is)
          (before.0, (heap_view c.loop.heap_seat, c.loop.queue_seats), before.1, last)
    ]

pub returns-clause-empty : goal.returns-clause-empty
returns-clause-empty g c =
    elim c.match-next.branch [
      | in-None w ↦ absurd (false≢true (subst IsSome w.in-None.is c.next.ensures.steps))
      | in-Some+in-Ok+then-is_none w ↦
          let d = w.deliver_batch-answer in
          let told = subst
          (λ (r : Result (Option Outs) ShareFault). DeliversBatch c.args.worker 32 (heap_view c.loop.heap_seat)
          c.args.queues.now c.loop.queue_seats r d.result.1 (heap_view d.new.heap_seat) d.new.queue_seats)
          w.in-Ok.is d.ensures.calls in
          rw w.batch-is
          (delivered_leaves_none c.args.queues.now c.loop.queue_seats d.new.queue_seats c.args.worker 32
          (heap_view c.loop.heap_seat) w.in-Ok.given d.result.1 (heap_view d.new.heap_seat) told)
    ]
