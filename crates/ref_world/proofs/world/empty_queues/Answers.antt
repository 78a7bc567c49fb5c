use Rattle.ref_world.proofs.Common.{◌∙◌, ap, arith, new_queues}
use Rattle.ref_world.proofs.FirstCores.{new_queues_more}
use Rattle.ref_world.proofs.world.empty_queues.Goals as goal

pub loop-queue-preserved : goal.loop-queue-preserved
loop-queue-preserved g c = grind (arith, new_queues_more)

pub returns : goal.returns
returns g c =
    c.loop-queue.invariant.are ∙ ap (new_queues 0) (omega (arith, c.loop-queue-test.false, c.loop-queue.auto.queue-end))
