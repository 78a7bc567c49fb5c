use Rattle.ref_share.proofs.Seats.{seat_stays}
use Rattle.ref_share.proofs.shared.Shared.join.Goals as goal

pub returns-clause-seat : goal.returns-clause-seat
returns-clause-seat g c =
    seat_stays g.M.Machine.stands_for g.M.Machine.steps_to c.args.self.now.turn _ c.args.seat.now.seat c.join.new.seat
    c.requires.0 c.join.ensures.turn c.join.ensures.longer.0 c.join.ensures.history
