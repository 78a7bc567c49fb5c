use Rattle.ref_share.proofs.Common.{Option, Result, Ok, subst, heap_view, Fault}
use Rattle.ref_clear.specs.declared.handed.Handed.{Handed}
use Rattle.ref_share.proofs.Places.{sent_delivered}
use Rattle.ref_share.specs.HeapCalls.{GivesBatch}
use Rattle.ref_share.proofs.delivery.deliver_batch.Goals as goal

pub returns-in-Ok-Some-clause-calls : goal.returns-in-Ok-Some-clause-calls
returns-in-Ok-Some-clause-calls g c =
    let v = heap_view c.args.heap_seat.now in
    let u = heap_view c.hand_batch-given.new.seat in
    let given = c.hand_batch-given.result.1 in
    let told = subst
    (λ (r : Result (Option Handed) Fault). GivesBatch v c.args.worker c.args.max c.args.batch r given u)
    c.in-Ok-Some.is c.hand_batch-given.ensures.gives in
    let gives = subst (λ (o : Option Handed). GivesBatch v c.args.worker c.args.max c.args.batch (Ok o) given u)
    c.in-Ok-Some.field-0-is told in
    sent_delivered c.args.queues.now c.args.queue_seats.now c.send_batch.new.queue_seats c.args.worker c.args.max v
    c.args.batch c.in-Ok-Some.handed given u c.send_batch.result.0 c.send_batch.result.1
    (heap_view c.send_batch.new.heap_seat) c.requires.empty gives c.send_batch.ensures.sends
