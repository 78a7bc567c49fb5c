use Rattle.ref_share.proofs.Common.{heap_view}
use Rattle.ref_share.proofs.CleanCalls.{made_or_not}
use Rattle.ref_share.proofs.cleaning.refer.Goals as goal

pub returns : goal.returns
returns g c =
    let made = made_or_not c.args.queue c.args.mutator c.args.source c.args.slot (heap_view c.args.seat.now)
    (heap_view c.perform.new.seat) (heap_view c.hold.new.seat)
    (_, c.in_ok-perform.ensures.performs.0, c.in_ok-perform.ensures.performs.1) c.hold.result c.hold.ensures.holds in
    record { seat = c.hold.ensures.seat; made = made.0; not = made.1 }
