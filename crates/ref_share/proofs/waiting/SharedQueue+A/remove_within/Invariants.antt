use Rattle.ref_share.proofs.Common.{empty_polls, queue_view, IsQueueSeat, Made}
use Rattle.ref_share.proofs.waiting.SharedQueue+A.remove_within.Given as goal

abbrev pub invariant-loop : goal.invariant-loop
invariant-loop g l =
    let v = queue_view l.initial.seat in
    IsQueueSeat l.self l.seat × Made v (empty_polls v l.counter) (queue_view l.seat)
