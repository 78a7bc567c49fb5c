use Rattle.std.specs.Prelude.{IfOk}
use Rattle.ref_share.proofs.Common.{ℕ, ◌<◌, length, Result, Fault, Some, arith, subst, ap, sym, ◌∙◌, slice_get-get_or}
use Rattle.ref_share.proofs.Common.{slice_index_or}
use Rattle.ref_share.proofs.Places.{still_seats, put_at_place}
use Rattle.ref_share.proofs.delivery.put_at.Goals as goal

pub put-requires : goal.put-requires
put-requires g c =
    let place = c.in-Ok.place in
    let queues = c.args.queues.now in
    let seats = c.args.seats.now in
    let within = subst (λ (r : Result ℕ Fault). IfOk r (λ (p : ℕ). (p < length queues) × (p < length seats)))
    c.in-Ok.is c.place_of.ensures.within in
    c.requires place c.index-queues-place.result (slice_index_or seats place c.index-seats-place.result)
    (slice_get-get_or queues place c.index-queues-place.result within.0 ∙ ap Some (sym c.index-queues-place.is))
    (slice_get-get_or seats place c.index-seats-place.result within.1)

pub returns-in-Ok-clause-seats : goal.returns-in-Ok-clause-seats
returns-in-Ok-clause-seats g c = grind (arith, still_seats, slice_get-get_or)

pub returns-in-Ok-clause-puts : goal.returns-in-Ok-clause-puts
returns-in-Ok-clause-puts g c = grind (arith, slice_get-get_or, put_at_place)
