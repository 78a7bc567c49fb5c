use Rattle.ref_world.proofs.Common.{arith}
use Rattle.ref_world.proofs.QueueSteps.{puts_done, puts_own, puts_within}
use Rattle.ref_world.proofs.Refusals.{empty_at_puts}
use Rattle.ref_world.proofs.world.World.puts.Goals as goal

pub returns-in_err-queue-clause-row : goal.returns-in_err-queue-clause-row
returns-in_err-queue-clause-row g c = grind (arith, empty_at_puts)

pub index_mut-queue-requires : goal.index_mut-queue-requires
index_mut-queue-requires g c =
    let within =
    puts_within c.self.invariant c.self.view_is c.args.actor c.in_ok-queue.queue c.in_ok-queue.ensures.answer in
    omega (arith, within, c.queue.view_is, c.self.inside.queues.ok.0)

pub put_all-outs-requires-clause-own : goal.put_all-outs-requires-clause-own
put_all-outs-requires-clause-own g c =
    rw c.in_ok-queue.ensures.kept
    (puts_own c.self.invariant c.self.view_is c.args.actor c.queue.view_is c.in_ok-queue.ensures.refused
    c.in_ok-queue.ensures.answer c.index_mut-queue.ensures.value)

pub invariant_of-self-2 : goal.invariant_of-self-2
invariant_of-self-2 g c =
    (puts_done c.self.invariant c.self.view_is c.args.actor c.queue.view_is c.in_ok-queue.ensures.refused
    c.in_ok-queue.ensures.answer c.index_mut-queue.ensures.value c.in_ok-queue.ensures.kept
    c.put_all-outs.ensures.puts c.put_all-outs.ensures.left).1

pub returns-clause-row : goal.returns-clause-row
returns-clause-row g c =
    (puts_done c.self.invariant c.self.view_is c.args.actor c.queue.view_is c.in_ok-queue.ensures.refused
    c.in_ok-queue.ensures.answer c.index_mut-queue.ensures.value c.in_ok-queue.ensures.kept
    c.put_all-outs.ensures.puts c.put_all-outs.ensures.left).0
