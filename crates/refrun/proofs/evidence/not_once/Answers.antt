use Rattle.refrun.proofs.NoEvidence.{each_once, if_none}
use Rattle.refrun.proofs.evidence.not_once.Goals as goal

pub returns-clause-passes : goal.returns-clause-passes
returns-clause-passes g c =
    if_none (each_once (λ v. v.items) c.args.lists.now c.args.taken.now c.in_default-taken_twice.ensures.passes
    c.in_default.ensures.passes) c.not_taken.result c.not_taken.ensures.passes
