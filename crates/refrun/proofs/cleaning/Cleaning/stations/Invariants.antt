use Rattle.refrun.proofs.Common.{All}
use Rattle.refrun.specs.CleaningSeats.{IsCleanSeated, IsOfCleaning}
use Rattle.refrun.proofs.cleaning.Cleaning.stations.Given as goal

abbrev pub invariant-loop-jobs : goal.invariant-loop-jobs
invariant-loop-jobs g l =
    IsOfCleaning l.self l.seats × All (λ station. IsCleanSeated station) l.stations.items
