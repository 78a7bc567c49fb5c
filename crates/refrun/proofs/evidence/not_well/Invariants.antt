use Rattle.refrun.proofs.Common.{◌≡◌, true, take, All}
use Rattle.refrun.specs.StressChecks.{ran_well}
use Rattle.refrun.proofs.evidence.not_well.Given as goal

abbrev pub invariant-loop-job : goal.invariant-loop-job
invariant-loop-job l = All (λ f. ran_well f ≡ true) (take l.job l.jobs)
