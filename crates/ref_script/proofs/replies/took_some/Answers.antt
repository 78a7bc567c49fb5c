use Rattle.ref_script.proofs.Common.{arith, le-leb}
use Rattle.ref_script.proofs.replies.took_some.Goals as goal

pub returns : goal.returns
returns c = grind (arith, le-leb)
