use Rattle.ref_world.proofs.hands.end_all.Given as goal

abbrev pub invariant-loop-hand : goal.invariant-loop-hand
invariant-loop-hand g l = Unit {0}

abbrev pub decreases-loop-hand : goal.decreases-loop-hand
decreases-loop-hand g l = goal.left-loop-hand g l
