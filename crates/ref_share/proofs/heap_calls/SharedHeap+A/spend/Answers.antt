use Rattle.ref_share.proofs.Common.{subst, Acts, heap_view, Called}
use Rattle.ref_share.proofs.HeapAnswers.{spends_it, spends_none}
use Rattle.ref_share.proofs.heap_calls.SharedHeap+A.spend.Goals as goal

pub returns-in-Ok-Told-clause-spends : goal.returns-in-Ok-Told-clause-spends
returns-in-Ok-Told-clause-spends g c =
    let v = heap_view c.args.seat.now in
    let w = heap_view c.call.new.seat in
    let step = c.args.step in
    let is = c.in-Ok-Told.field-0-is in
    let acted = c.in-Ok-Told.ensures.acted in
    spends_it v w acted.0 acted.1 step c.in-Ok-Told.field-0-0 c.requires.step
    (subst (λ reply. Acts acted.0 step reply acted.1) is acted.2)
    (subst (λ reply. Called v step reply w) is c.in-Ok-Told.ensures.ok)

pub returns-in-Ok-Back-clause-spends : goal.returns-in-Ok-Back-clause-spends
returns-in-Ok-Back-clause-spends g c =
    let v = heap_view c.args.seat.now in
    let w = heap_view c.call.new.seat in
    let step = c.args.step in
    let is = c.in-Ok-Back.field-0-is in
    let acted = c.in-Ok-Back.ensures.acted in
    spends_none v w acted.0 acted.1 step c.in-Ok-Back.fault c.in-Ok-Back.hold c.requires.step
    (subst (λ reply. Acts acted.0 step reply acted.1) is acted.2)
    (subst (λ reply. Called v step reply w) is c.in-Ok-Back.ensures.ok)
