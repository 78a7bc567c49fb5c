use Rattle.ref_base.proofs.Common.{arith}
use Rattle.ref_base.proofs.StrengthLaws.{AreStrengths_from}
use Rattle.ref_graph.proofs.reachability.list.Goals as goal

pub returns : goal.returns
returns g c = grind (arith, AreStrengths_from)
