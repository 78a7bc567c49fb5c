use Rattle.ref_share.proofs.Common.{subst, Acts, heap_view, Called}
use Rattle.ref_share.proofs.HeapAnswers.{gives_batch}
use Rattle.ref_base.specs.declared.heap_step.HeapStep.TheVariants as heap
use Rattle.ref_share.proofs.heap_calls.SharedHeap+A.hand_batch.Goals as goal

pub returns-in-Ok-Handed-clause-gives : goal.returns-in-Ok-Handed-clause-gives
returns-in-Ok-Handed-clause-gives g c =
    let v = heap_view c.args.seat.now in
    let w = heap_view c.call.new.seat in
    let is = c.in-Ok-Handed.field-0-is in
    let acted = c.in-Ok-Handed.ensures.acted in
    let step = heap.Hands c.args.worker c.args.max c.args.batch in
    gives_batch v w acted.0 acted.1 c.args.worker c.args.max c.args.batch c.in-Ok-Handed.batch c.in-Ok-Handed.reply
    c.answer.result (subst (λ reply. Acts acted.0 step reply acted.1) is acted.2) c.answer.ensures
    (subst (λ reply. Called v step reply w) is c.in-Ok-Handed.ensures.ok)
