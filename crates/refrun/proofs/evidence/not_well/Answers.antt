use Rattle.refrun.proofs.Common.{◌≡◌, true, arith, take_all, subst}
use Rattle.std.proofs.lemmas.List.Elements.{All-more}
use Rattle.refrun.specs.StressChecks.{RanWell, ran_well}
use Rattle.refrun.proofs.evidence.not_well.Goals as goal

pub loop-job-preserved : goal.loop-job-preserved
loop-job-preserved c =
    All-more (λ f. ran_well f ≡ true) c.args.jobs.now c.loop-job.job _ (omega arith) c.loop-job.invariant
    c.in_default.ensures.passes

pub returns-clause-passes : goal.returns-clause-passes
returns-clause-passes c = subst RanWell (take_all c.loop-job.job c.args.jobs.now (omega arith)) c.loop-job.invariant
