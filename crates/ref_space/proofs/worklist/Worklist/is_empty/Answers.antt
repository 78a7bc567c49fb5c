use Rattle.ref_space.proofs.Common.{arith}
use Rattle.ref_space.proofs.WorklistLemmas.{none_left}
use Rattle.ref_space.proofs.worklist.Worklist.is_empty.Goals as goal

pub returns : goal.returns
returns g c = grind (arith, none_left c.self.inside.taken c.self.inside.entries.items, c.self.inside.entries.ok.0)
