use Rattle.ref_share.proofs.Common.{subst, sym, queue_view}
use Rattle.ref_share.specs.CleanLoops.{PollsFor}
use Rattle.ref_share.specs.declared.clean_loop.Polling.TheVariants.{Waits}
use Rattle.ref_share.proofs.clean_loop.poll_by.Goals as goal

pub returns-in-Waits-clause-polls : goal.returns-in-Waits-clause-polls
returns-in-Waits-clause-polls g c =
    let u = queue_view c.args.seat.now in
    let w = queue_view c.remove_wait.new.seat in
    subst (λ polling. PollsFor polling u c.taken.result w) (sym c.in-Waits.is)
    (c.taken.ensures Waits u w c.remove_wait.ensures.polls)
