use Rattle.ref_script.proofs.Common.{arith}
use Rattle.ref_script.proofs.FirstBytes.{told_by_first}
use Rattle.ref_script.proofs.told.says_nothing.Goals as goal

pub returns-then-byte-ne32 : goal.returns-then-byte-ne32
returns-then-byte-ne32 c = grind (arith, told_by_first)
