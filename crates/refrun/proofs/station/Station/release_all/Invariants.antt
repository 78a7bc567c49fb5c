use Rattle.refrun.proofs.Common.{StaysSeated, vec_len}
use Rattle.refrun.proofs.station.Station.release_all.Given as goal

abbrev pub invariant-loop-hold : goal.invariant-loop-hold
invariant-loop-hold g l = StaysSeated l.initial.self l.self

abbrev pub decreases-loop-hold : goal.decreases-loop-hold
decreases-loop-hold g l = vec_len l.holds
