use Rattle.ref_world.proofs.Common.{arith}
use Rattle.std.proofs.lemmas.List.{length-drop}
use Rattle.ref_world.proofs.hand.Hand.take_first.Goals as goal

pub returns-clause-room : goal.returns-clause-room
returns-clause-room g c = grind (arith, length-drop)
