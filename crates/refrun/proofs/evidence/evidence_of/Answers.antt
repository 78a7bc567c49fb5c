use Rattle.refrun.proofs.ListChecks.{in_order}
use Rattle.refrun.proofs.NoEvidence.{if_none}
use Rattle.refrun.proofs.Reports.{all_put_in}
use Rattle.refrun.proofs.evidence.evidence_of.Goals as goal

pub returns-in-Order-clause-passes : goal.returns-in-Order-clause-passes
returns-in-Order-clause-passes g c =
    rw c.in-Order.is
    (if_none (in_order (λ v. v.items) c.args.enqueued.now c.args.lists.now).0 c.out_of_order.result
    c.out_of_order.ensures.passes)

pub returns-in-Reports-clause-passes : goal.returns-in-Reports-clause-passes
returns-in-Reports-clause-passes g c =
    rw c.in-Reports.is
    (if_none (all_put_in (λ v. v.items) c.args.kept.now c.args.enqueued.now) c.not_put_in.result
    c.not_put_in.ensures.passes)
