use Rattle.std.proofs.Common.{add-one}
use Rattle.ref_share.proofs.Common.{queue_view}
use Rattle.ref_share.proofs.Polls.{made_none, one_more_empty}
use Rattle.ref_share.proofs.waiting.SharedQueue+A.remove_within.Goals as goal

pub loop-init : goal.loop-init
loop-init g c = (c.requires, made_none (queue_view c.args.seat.now))

pub loop-preserved : goal.loop-preserved
loop-preserved g c =
    let so_far = c.loop.invariant.1 in
    let found_nothing = one_more_empty (queue_view c.args.seat.now) (queue_view c.loop.seat)
    (queue_view c.poll.new.seat) c.loop.counter so_far in
    (c.in_default.ensures.seat, rw add-one (found_nothing c.in_default.ensures.polls))
