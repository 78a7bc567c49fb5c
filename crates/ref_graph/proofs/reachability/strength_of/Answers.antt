use Rattle.ref_base.proofs.Common.{arith}
use Rattle.ref_base.proofs.StrengthLaws.{AreFound-reach}
use Rattle.ref_graph.proofs.reachability.strength_of.Goals as goal

pub returns-in-Ok : goal.returns-in-Ok
returns-in-Ok g c = grind (arith, AreFound-reach)
