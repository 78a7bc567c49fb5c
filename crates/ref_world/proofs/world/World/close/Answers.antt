use Rattle.ref_world.proofs.Common.{arith}
use Rattle.ref_world.proofs.QueueSteps.{close_done}
use Rattle.ref_world.proofs.Refusals.{queue_within}
use Rattle.ref_world.proofs.world.World.close.Goals as goal

pub index_mut-requires : goal.index_mut-requires
index_mut-requires g c = grind (arith, queue_within)

pub invariant_of-self : goal.invariant_of-self
invariant_of-self g c =
    rw c.if-close.ensures.after
    (close_done c.self.invariant c.self.view_is c.args.mutator c.queue.view_is c.in_ok-check_queue.ensures
    c.index_mut.ensures.value c.if-close.ensures.result).1

pub returns-then-close-clause-row : goal.returns-then-close-clause-row
returns-then-close-clause-row g c =
    rw c.if-close.ensures.after
    (close_done c.self.invariant c.self.view_is c.args.mutator c.queue.view_is c.in_ok-check_queue.ensures
    c.index_mut.ensures.value c.if-close.ensures.result).0

pub invariant_of-self-2 : goal.invariant_of-self-2
invariant_of-self-2 g c =
    rw c.if-close.ensures.after
    (close_done c.self.invariant c.self.view_is c.args.mutator c.queue.view_is c.in_ok-check_queue.ensures
    c.index_mut.ensures.value c.if-close.ensures.result).1

pub returns-clause-row : goal.returns-clause-row
returns-clause-row g c =
    rw c.if-close.ensures.after
    (close_done c.self.invariant c.self.view_is c.args.mutator c.queue.view_is c.in_ok-check_queue.ensures
    c.index_mut.ensures.value c.if-close.ensures.result).0
