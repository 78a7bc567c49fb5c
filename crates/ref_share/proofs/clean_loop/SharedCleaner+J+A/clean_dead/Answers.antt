use Rattle.ref_share.proofs.Common.{inr, clean_view, heap_view}
use Rattle.ref_share.proofs.CleanCalls.{has_taken}
use Rattle.ref_share.proofs.clean_loop.SharedCleaner+J+A.clean_dead.Goals as goal

pub returns-in-Ok-clause-cleans : goal.returns-in-Ok-clause-cleans
returns-in-Ok-clause-cleans g c =
    let u = heap_view c.release.new.seat in
    let taken = has_taken c.args.notice (heap_view c.args.heap_seat.now) u (clean_view c.args.seat.now)
    (clean_view c.take.new.seat) _ c.in-Ok-Some.hold _ c.in-Ok-Some.job _ c.into_hold.ensures
    c.in_default.ensures.releases c.obj-object.ensures c.in-Ok-Some.field-0-is c.in-Ok-Some.ensures.takes in
    (c.in-Ok-Some.hold, c.in-Ok-Some.job, u, taken, c.in-Ok.ensures.releases)

pub returns-in-Err-released-clause-cleans : goal.returns-in-Err-released-clause-cleans
returns-in-Err-released-clause-cleans g c =
    let u = heap_view c.release.new.seat in
    let taken = has_taken c.args.notice (heap_view c.args.heap_seat.now) u (clean_view c.args.seat.now)
    (clean_view c.take.new.seat) _ c.in-Ok-Some.hold _ c.in-Ok-Some.job _ c.into_hold.ensures
    c.in_default.ensures.releases c.obj-object.ensures c.in-Ok-Some.field-0-is c.in-Ok-Some.ensures.takes in
    inr (c.in-Ok-Some.hold, c.in-Ok-Some.job, u, taken, c.in-Err-released.ensures.releases)
