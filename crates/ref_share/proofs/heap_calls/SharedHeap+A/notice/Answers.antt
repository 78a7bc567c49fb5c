use Rattle.ref_share.proofs.Common.{subst, Acts, heap_view, Called}
use Rattle.ref_share.proofs.HeapAnswers.{gives_none}
use Rattle.ref_share.proofs.heap_calls.SharedHeap+A.notice.Goals as goal

pub returns-in-Ok-Told-clause-gives : goal.returns-in-Ok-Told-clause-gives
returns-in-Ok-Told-clause-gives g c =
    let v = heap_view c.args.seat.now in
    let w = heap_view c.without_hold.new.seat in
    let step = c.args.step in
    let is = c.in-Ok-Told.field-0-is in
    let acted = c.in-Ok-Told.ensures.acted in
    gives_none v w acted.0 acted.1 step c.in-Ok-Told.reply c.none_given.result c.requires.step
    (subst (λ reply. Acts acted.0 step reply acted.1) is acted.2) (rw c.reply.ensures at c.none_given.ensures)
    (subst (λ reply. Called v step reply w) is c.in-Ok-Told.ensures.ok)
