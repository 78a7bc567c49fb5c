use Rattle.refrun.proofs.Common.{StaysSeated}
use Rattle.refrun.specs.CleaningSeats.{StaysCleanSeated}
use Rattle.refrun.proofs.station.Station.work.Given as goal

abbrev pub invariant-loop : goal.invariant-loop
invariant-loop g l =
    (goal.iterator-loop g).can_next l.iterator' × (goal.iterator-loop g).is_finite l.iterator'
    × StaysSeated l.initial.self l.self × StaysCleanSeated l.initial.cleaning l.cleaning
