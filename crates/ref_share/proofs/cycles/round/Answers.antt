use Rattle.ref_share.proofs.Common.{Ok, inr, subst, heap_view}
use Rattle.std.proofs.Common.{rules}
use Rattle.ref_share.specs.HeapCalls.{Performs}
use Rattle.ref_share.proofs.cycles.round.Goals as goal

pub returns-in-Ok-perform-clause-goes : goal.returns-in-Ok-perform-clause-goes
returns-in-Ok-perform-clause-goes g c =
    let none = subst
    (λ reply. Performs (heap_view c.args.seat.now) c.args.work (Ok reply) (heap_view c.perform.new.seat))
    c.in-Ok-Nothing.field-0-is c.in-Ok-Nothing.ensures.performs in
    let ends = c.in-Ok-perform.ensures.performs in
    (heap_view c.perform.new.seat, none, (c.in-Ok-perform.field-0, ends.0, ends.1))

pub returns-in-Err-GreyLeft-clause-goes : goal.returns-in-Err-GreyLeft-clause-goes
returns-in-Err-GreyLeft-clause-goes g c =
    let none = subst
    (λ reply. Performs (heap_view c.args.seat.now) c.args.work (Ok reply) (heap_view c.perform.new.seat))
    c.in-Ok-Nothing.field-0-is c.in-Ok-Nothing.ensures.performs in
    inr
    (heap_view c.perform.new.seat, c.in-Err-GreyLeft.field-0, search rules, none, c.in-Err-GreyLeft.ensures.performs)
