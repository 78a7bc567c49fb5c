use Rattle.std.proofs.Common.{arith}
use Rattle.ref_space.proofs.BitLemmas.{bits_of-cleared}
use Rattle.ref_space.proofs.page.Page.take.Goals as goal

pub returns : goal.returns
returns c = grind (arith, bits_of-cleared)
