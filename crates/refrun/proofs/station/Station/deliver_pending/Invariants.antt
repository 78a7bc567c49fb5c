use Rattle.refrun.proofs.Common.{StaysSeated}
use Rattle.refrun.proofs.station.Station.deliver_pending.Given as goal

abbrev pub invariant-loop-number : goal.invariant-loop-number
invariant-loop-number g l = StaysSeated l.initial.self l.self
