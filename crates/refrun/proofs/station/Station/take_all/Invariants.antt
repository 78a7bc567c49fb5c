use Rattle.refrun.proofs.Common.{StaysSeated, length}
use Rattle.refrun.proofs.station.Station.take_all.Given as goal

abbrev pub invariant-loop-notice : goal.invariant-loop-notice
invariant-loop-notice g l = StaysSeated l.initial.self l.self

abbrev pub decreases-loop-notice : goal.decreases-loop-notice
decreases-loop-notice g l = length l.batch
