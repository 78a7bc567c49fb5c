use Rattle.ref_turn.proofs.Common.{rules}
use Rattle.ref_turn.proofs.Keeps.{looks}
use Rattle.ref_turn.proofs.Stays.{idle_rests}
use Rattle.ref_turn.proofs.turn.Turn.served.Goals as goal

pub load-requires : goal.load-requires
load-requires g c =
    let place = c.args.seat.now.place in
    (search rules, search rules, looks _ _ _ _ _ place.me (idle_rests _ c.args.seat.now.between.0))
