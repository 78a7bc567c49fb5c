use Rattle.ref_world.proofs.Common.{◌∙◌, arith}
use Rattle.ref_world.proofs.QueueSteps.{put_done}
use Rattle.ref_world.proofs.ReachedCores.{hand_has_queue}
use Rattle.ref_world.proofs.Refusals.{empty_at_put}
use Rattle.ref_world.proofs.world.World.put.Goals as goal

pub returns-in_err-notice-clause-row : goal.returns-in_err-notice-clause-row
returns-in_err-notice-clause-row g c = grind (arith, empty_at_put)

pub index_mut-queue-requires : goal.index_mut-queue-requires
index_mut-queue-requires g c =
    let within =
    hand_has_queue _ c.self.invariant.reached c.args.actor c.in_ok-notice.notice _ c.in_ok-notice.ensures.answer in
    omega (arith, within, c.index_mut.view_is ∙ c.queue.ensures, c.self.inside.queues.ok.0)

pub invariant_of-self : goal.invariant_of-self
invariant_of-self g c = rw c.in_err-notice.ensures.kept c.self.invariant

pub invariant_of-self-2 : goal.invariant_of-self-2
invariant_of-self-2 g c =
    rw (c.take_back.ensures, c.in_ok-notice.ensures.taken)
    (put_done c.self.invariant c.self.view_is c.args.actor c.in_ok-notice.notice _
    (c.index_mut.view_is ∙ c.queue.ensures) c.in_ok-notice.ensures.refused c.in_ok-notice.ensures.answer
    c.index_mut-queue.ensures.value c.put_one-left.ensures).1

pub returns-clause-row : goal.returns-clause-row
returns-clause-row g c =
    rw (c.take_back.ensures, c.in_ok-notice.ensures.taken)
    (put_done c.self.invariant c.self.view_is c.args.actor c.in_ok-notice.notice _
    (c.index_mut.view_is ∙ c.queue.ensures) c.in_ok-notice.ensures.refused c.in_ok-notice.ensures.answer
    c.index_mut-queue.ensures.value c.put_one-left.ensures).0
