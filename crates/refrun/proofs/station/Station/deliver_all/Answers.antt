use Rattle.refrun.proofs.Common.{arith}
use Rattle.ref_share.proofs.SeatLists.{only_seat}
use Rattle.refrun.proofs.station.Station.deliver_all.Goals as goal

pub release_batch-requires : goal.release_batch-requires
release_batch-requires g c = (
  c.deliver_all-answer.ensures.seats.0,
  only_seat _ _ _ c.deliver_all-answer.ensures.seats.1 c.from_ref.ensures.value
      (omega (arith, c.from_mut.ensures.len)),
)
