use Rattle.ref_turn.proofs.Common.{arith, rules, subst, sym, ap}
use Rattle.ref_turn.proofs.Comings.{joins}
use Rattle.ref_turn.proofs.Keeps.{looks}
use Rattle.ref_turn.proofs.Stays.{Rests}
use Rattle.ref_turn.proofs.turn.Turn.join.Goals as goal

pub join_seat-requires : goal.join_seat-requires
join_seat-requires g c = grind (arith, joins)

pub load-requires : goal.load-requires
load-requires g c = (
  search rules,
  search rules,
  looks _ _ _ _ _ c.join_seat.new.seat.me (subst Rests (sym (ap (λ m. m.0.stage) c.join_seat.ensures.2)) tt),
)
