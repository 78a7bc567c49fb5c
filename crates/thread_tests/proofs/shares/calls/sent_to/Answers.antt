use Rattle.std.proofs.Common.{arith}
use Rattle.ref_share.proofs.SeatLists.{only_seat}
use Rattle.thread_tests.proofs.shares.calls.sent_to.Goals as goal

pub returns : goal.returns
returns g c = (
  c.sent.ensures.0,
  only_seat _ _ _ c.sent.ensures.1 c.from_ref-queues.ensures.value (omega (arith, c.from_mut-own.ensures.len)),
)
