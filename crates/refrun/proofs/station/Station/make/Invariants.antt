use Rattle.refrun.proofs.Common.{StaysSeated}
use Rattle.refrun.proofs.station.Station.make.Given as goal

abbrev pub invariant-loop : goal.invariant-loop
invariant-loop g l =
    StaysSeated l.initial.self l.self
