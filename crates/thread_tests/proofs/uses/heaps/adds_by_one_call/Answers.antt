use Rattle.std.proofs.Common.{arith}
use Rattle.ref_share.proofs.SeatLists.{only_seat}
use Rattle.thread_tests.proofs.uses.heaps.adds_by_one_call.Goals as goal

pub returns-in-Ok-clause-seats : goal.returns-in-Ok-clause-seats
returns-in-Ok-clause-seats g c = (
  c.enqueue.ensures.seats.0,
  only_seat _ _ _ c.enqueue.ensures.seats.1 c.from_ref-queues.ensures.value (omega (arith, c.from_mut-own.ensures.len)),
)

pub returns-in-Err-clause-seats : goal.returns-in-Err-clause-seats
returns-in-Err-clause-seats g c = (
  c.enqueue.ensures.seats.0,
  only_seat _ _ _ c.enqueue.ensures.seats.1 c.from_ref-queues.ensures.value (omega (arith, c.from_mut-own.ensures.len)),
)
