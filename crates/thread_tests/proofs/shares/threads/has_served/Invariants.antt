use Rattle.ref_share.specs.QueueSeats.{IsQueueSeat}
use Rattle.thread_tests.proofs.shares.threads.has_served.Given as goal

abbrev pub invariant-loop : goal.invariant-loop
invariant-loop l = IsQueueSeat l.queue l.seat
