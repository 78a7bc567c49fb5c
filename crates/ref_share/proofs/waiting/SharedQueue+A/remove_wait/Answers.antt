use Rattle.ref_share.proofs.Common.{suc, queue_view}
use Rattle.ref_share.proofs.Polls.{made_none, one_more_empty}
use Rattle.ref_share.proofs.waiting.SharedQueue+A.remove_wait.Goals as goal

pub loop-init : goal.loop-init
loop-init g c = (c.requires, (0, made_none (queue_view c.args.seat.now)))

pub loop-preserved : goal.loop-preserved
loop-preserved g c =
    let so_far = c.loop.invariant.1 in
    let v = queue_view c.args.seat.now in
    let found_nothing = one_more_empty v (queue_view c.loop.seat) (queue_view c.poll.new.seat) so_far.0 so_far.1 in
    (c.in_default.ensures.seat, (suc so_far.0, found_nothing c.in_default.ensures.polls))
