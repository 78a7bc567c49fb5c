use Rattle.ref_turn.proofs.Common.{arith, rules}
use Rattle.ref_turn.proofs.Keeps.{draws, looks, grabs}
use Rattle.ref_turn.proofs.Stays.{idle_rests}
use Rattle.ref_turn.proofs.turn.Turn.enter.Goals as goal

pub load-served-requires : goal.load-served-requires
load-served-requires g c =
    (search rules, search rules, looks _ _ _ _ _ c.args.place.now.me (idle_rests _ c.requires.idle.0))

pub load-tickets-requires : goal.load-tickets-requires
load-tickets-requires g c = (search rules, search rules, draws _ _ _ _ _ c.load-served.new.seat.me (search rules))

pub compare_exchange-found-requires : goal.compare_exchange-found-requires
compare_exchange-found-requires g c = grind (arith, grabs)
