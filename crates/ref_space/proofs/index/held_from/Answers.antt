use Rattle.ref_space.proofs.Common.{arith}
use Rattle.ref_space.proofs.FirstLemmas.{found_first}
use Rattle.ref_space.proofs.index.held_from.Goals as goal

pub returns : goal.returns
returns c = grind (arith, found_first)
