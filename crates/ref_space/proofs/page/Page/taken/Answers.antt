use Rattle.std.proofs.Common.{arith}
use Rattle.ref_space.proofs.BitLemmas.{count_clear-bits_of}
use Rattle.ref_space.proofs.page.Page.taken.Goals as goal

pub returns : goal.returns
returns c = grind (arith, count_clear-bits_of)
