use Rattle.std.proofs.Common.{arith}
use Rattle.ref_share.proofs.SeatLists.{only_seat}
use Rattle.thread_tests.proofs.uses.heaps.releases_what_it_drops.Goals as goal

pub returns-in-Ok-Dropped-clause-seats : goal.returns-in-Ok-Dropped-clause-seats
returns-in-Ok-Dropped-clause-seats g c = (
  c.served.ensures.seat,
  only_seat _ _ _ c.deliver_one.ensures.seats.1 c.from_ref-queues.ensures.value
      (omega (arith, c.from_mut-own.ensures.len)),
)

pub returns-in-Ok-clause-seats : goal.returns-in-Ok-clause-seats
returns-in-Ok-clause-seats g c = (
  c.deliver_one.ensures.seats.0,
  only_seat _ _ _ c.deliver_one.ensures.seats.1 c.from_ref-queues.ensures.value
      (omega (arith, c.from_mut-own.ensures.len)),
)

pub returns-in-Err-clause-seats : goal.returns-in-Err-clause-seats
returns-in-Err-clause-seats g c = (
  c.deliver_one.ensures.seats.0,
  only_seat _ _ _ c.deliver_one.ensures.seats.1 c.from_ref-queues.ensures.value
      (omega (arith, c.from_mut-own.ensures.len)),
)
