use Rattle.ref_share.proofs.Seats.{call_stays}
use Rattle.ref_share.proofs.shared.Shared.try_step.Goals as goal

pub returns-clause-seat : goal.returns-clause-seat
returns-clause-seat g c =
    let told = c.try_call.ensures in
    call_stays g.M.Machine.stands_for g.M.Machine.steps_to c.args.self.now.turn _ c.args.seat.now.seat
    c.try_call.new.seat c.args.step c.try_call.result c.requires told.turn told.ok told.longer told.history
