use Rattle.ref_judge.proofs.TakenNumbers.{has-any}
use Rattle.ref_judge.proofs.judge.queueing.was_put.Goals as goal

pub returns-else-link_of-ne0 : goal.returns-else-link_of-ne0
returns-else-link_of-ne0 g c =
    rw (← has-any c.args.added.now c.args.no, ← c.link_of.ensures, c.if-link_of-ne0.false) c.contains.ensures.value
