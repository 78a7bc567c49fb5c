use Rattle.std.proofs.Common.{arith}
use Rattle.ref_share.proofs.SeatLists.{only_seat}
use Rattle.ref_bench.proofs.delivery_runs.Road.deliver.Goals as goal

pub returns : goal.returns
returns g c = (
  c.deliver_one-answer.ensures.seats.0,
  only_seat _ _ _ c.deliver_one-answer.ensures.seats.1 c.from_ref-queues.ensures.value
      (omega (arith, c.from_mut-own.ensures.len)),
)
