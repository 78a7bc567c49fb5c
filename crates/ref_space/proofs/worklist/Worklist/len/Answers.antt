use Rattle.ref_space.proofs.Common.{arith}
use Rattle.ref_space.proofs.WorklistLemmas.{length-left}
use Rattle.ref_space.proofs.worklist.Worklist.len.Goals as goal

pub returns : goal.returns
returns g c = grind (arith, length-left c.self.inside.taken c.self.inside.entries.items, c.self.inside.entries.ok.0)
