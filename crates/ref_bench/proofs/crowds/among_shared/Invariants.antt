use Rattle.std.proofs.Common.{All}
use Rattle.ref_share.specs.QueueSeats.{IsQueueSeat}
use Rattle.ref_bench.proofs.crowds.among_shared.Given as goal

abbrev pub invariant-loop-task : goal.invariant-loop-task
invariant-loop-task g l =
    IsQueueSeat l.queue l.seat × All (λ job. IsQueueSeat job.till.queue.now job.till.seat) l.jobs.items
