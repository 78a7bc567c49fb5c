use Rattle.ref_world.proofs.world.end_queues.Given as goal

abbrev pub invariant-loop-queue : goal.invariant-loop-queue
invariant-loop-queue g l = Unit {0}

abbrev pub decreases-loop-queue : goal.decreases-loop-queue
decreases-loop-queue g l = goal.left-loop-queue g l
