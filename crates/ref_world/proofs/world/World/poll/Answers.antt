use Rattle.ref_world.proofs.Common.{arith}
use Rattle.ref_world.proofs.QueueSteps.{poll_done}
use Rattle.ref_world.proofs.Refusals.{full_at_poll, queue_within}
use Rattle.ref_world.proofs.world.World.poll.Goals as goal

pub returns-in_err-check_empty-clause-row : goal.returns-in_err-check_empty-clause-row
returns-in_err-check_empty-clause-row g c = grind (arith, full_at_poll)

pub index_mut-requires : goal.index_mut-requires
index_mut-requires g c = grind (arith, queue_within)

pub invariant_of-self : goal.invariant_of-self
invariant_of-self g c =
    rw c.fill_if_any.ensures
    (poll_done c.self.invariant c.self.view_is c.args.mutator c.queue.view_is c.in_ok-check_queue.ensures
    c.index_mut.ensures.value c.in_ok-check_empty.ensures c.poll_one-reply.ensures).1

pub returns-clause-row : goal.returns-clause-row
returns-clause-row g c =
    rw c.fill_if_any.ensures
    (poll_done c.self.invariant c.self.view_is c.args.mutator c.queue.view_is c.in_ok-check_queue.ensures
    c.index_mut.ensures.value c.in_ok-check_empty.ensures c.poll_one-reply.ensures).0
