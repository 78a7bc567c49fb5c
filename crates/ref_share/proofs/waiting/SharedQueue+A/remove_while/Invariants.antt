use Rattle.ref_share.proofs.Common.{ℕ, empty_polls, queue_view, IsQueueSeat, Made}
use Rattle.ref_share.proofs.waiting.SharedQueue+A.remove_while.Given as goal

abbrev pub invariant-loop : goal.invariant-loop
invariant-loop g l =
    let v = queue_view l.initial.seat in
    IsQueueSeat l.self l.seat × ((k : ℕ) × Made v (empty_polls v k) (queue_view l.seat))
