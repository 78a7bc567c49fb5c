use Rattle.ref_turn.proofs.Common.{Longer}
use Rattle.ref_turn.specs.Turns.{IsSamePlace, IsIdle}
use Rattle.ref_turn.proofs.turn.Turn.wait_turn.Given as goal

abbrev pub invariant-loop : goal.invariant-loop
invariant-loop g l =
    IsSamePlace l.initial.place l.place × IsIdle l.place.me × Longer l.initial.place.me.0 l.place.me.0
