use Rattle.ref_mark.proofs.Common.{arith}
use Rattle.ref_mark.proofs.LoopLemmas.{begun_by_parts, begun_cycle}
use Rattle.ref_mark.proofs.marker.Marker.begin.Goals as goal

pub returns : goal.returns
returns g c = grind (arith, begun_by_parts, begun_cycle c.args.self.now c.args.now c.args.urgency)
