use Rattle.ref_share.proofs.Common.{subst, Acts}
use Rattle.ref_share.proofs.HeapAnswers.{answers_in_kind}
use Rattle.ref_base.specs.declared.heap_step.HeapStep.TheVariants as heap
use Rattle.ref_share.proofs.heap_calls.SharedHeap+A.ask.Goals as goal

pub returns-in-Ok-Told-clause-kind : goal.returns-in-Ok-Told-clause-kind
returns-in-Ok-Told-clause-kind g c =
    let acted = c.in-Ok-Told.ensures.acted in
    let acts = subst (λ reply. Acts acted.0 (heap.Plain c.args.step) reply acted.1) c.in-Ok-Told.field-0-is acted.2 in
    rw c.reply.ensures (answers_in_kind acted.0 acted.1 c.args.step c.in-Ok-Told.reply acts)
