use Rattle.refrun.proofs.Common.{arith, refl}
use Rattle.ref_share.proofs.SeatLists.{only_seat}
use Rattle.refrun.proofs.station.Station.enqueue.Goals as goal

pub settle-requires : goal.settle-requires
settle-requires g c = (
  c.enqueue-answer.ensures.seats.0,
  only_seat _ _ _ c.enqueue-answer.ensures.seats.1 c.from_ref.ensures.value (omega (arith, c.from_mut.ensures.len)),
)

pub returns-in-Ok : goal.returns-in-Ok
returns-in-Ok g c = (
  refl,
  (
    c.enqueue-answer.ensures.seats.0,
    only_seat _ _ _ c.enqueue-answer.ensures.seats.1 c.from_ref.ensures.value (omega (arith, c.from_mut.ensures.len)),
  ),
)
