use Rattle.ref_world.proofs.Common.{arith}
use Rattle.ref_world.proofs.QueueSteps.{polls_done}
use Rattle.ref_world.proofs.Refusals.{full_at_polls, queue_within}
use Rattle.ref_world.proofs.world.World.polls.Goals as goal

pub returns-in_err-check_fits-clause-row : goal.returns-in_err-check_fits-clause-row
returns-in_err-check_fits-clause-row g c = grind (arith, full_at_polls)

pub index_mut-queue-requires : goal.index_mut-queue-requires
index_mut-queue-requires g c = grind (arith, queue_within)

pub invariant_of-self : goal.invariant_of-self
invariant_of-self g c =
    (polls_done c.self.invariant c.self.view_is c.args.mutator c.queue.view_is c.in_ok-check_queue.ensures
    c.index_mut-queue.ensures.value c.args.max c.in_ok-check_fits.ensures c.poll_some.ensures).1

pub returns-clause-row : goal.returns-clause-row
returns-clause-row g c =
    rw c.polled.ensures
    (polls_done c.self.invariant c.self.view_is c.args.mutator c.queue.view_is c.in_ok-check_queue.ensures
    c.index_mut-queue.ensures.value c.args.max c.in_ok-check_fits.ensures c.poll_some.ensures).0
