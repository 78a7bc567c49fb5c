use Rattle.ref_world.proofs.Common.{ap, arith, Config, Core}
use Rattle.ref_world.proofs.QueueRows.{read_here}
use Rattle.ref_world.proofs.ReachedCores.{queue_count}
use Rattle.ref_world.proofs.world.World.queue.Goals as goal

pub index-requires : goal.index-requires
index-requires g c =
    let old : Core =
    record { heap = c.self.inside.heap; hands = c.self.inside.hands; queues = c.self.inside.queues.items } in
    let count = queue_count old c.self.invariant.reached in
    let there = ap (λ (f : Config). f.queues) c.config.ensures in
    omega (arith, c.if-no-config.false, there, count, c.self.inside.queues.ok.0)

pub returns-clause-answer : goal.returns-clause-answer
returns-clause-answer g c = grind (arith, queue_count, read_here)
