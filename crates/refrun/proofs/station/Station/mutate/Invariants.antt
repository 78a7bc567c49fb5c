use Rattle.refrun.proofs.Common.{StaysSeated}
use Rattle.refrun.specs.CleaningSeats.{StaysCleanSeated}
use Rattle.refrun.proofs.station.Station.mutate.Given as goal

abbrev pub invariant-loop-round : goal.invariant-loop-round
invariant-loop-round g l =
    StaysSeated l.initial.self l.self × StaysCleanSeated l.initial.cleaning l.cleaning
