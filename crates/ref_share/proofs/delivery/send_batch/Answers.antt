use Rattle.ref_share.proofs.Common.{Result, sym, ap, ◌∙◌, subst, heap_view, Fault}
use Rattle.ref_base.specs.Outs.{Outs}
use Rattle.ref_share.proofs.Places.{rest_sent}
use Rattle.ref_share.specs.Deliveries.{PutsBatchAt, refused_in}
use Rattle.ref_share.proofs.delivery.send_batch.Goals as goal

pub returns-in-None-clause-sends : goal.returns-in-None-clause-sends
returns-in-None-clause-sends g c =
    let queues = c.args.queues.now in
    let seats = c.args.queue_seats.now in
    let after = c.put_batch_at-answer.new.seats in
    let rest = c.put_batch_at-answer.result.1 in
    let put = subst
    (λ (r : Result Outs Fault). PutsBatchAt c.args.queue c.args.batch queues seats r rest after)
    c.in-Ok.is c.put_batch_at-answer.ensures.puts in
    let none = sym (ap refused_in c.as_slice.ensures.done) ∙ sym c.refused_in.ensures ∙ c.in-None.is in
    rest_sent queues seats after c.args.queue c.args.batch rest c.in-Ok.outs (heap_view c.args.heap_seat.now)
    c.give_all_back-answer.result.0 c.give_all_back-answer.result.1 (heap_view c.give_all_back-answer.new.seat)
    c.told_of.result put none c.give_all_back-answer.ensures.gives c.told_of.ensures
