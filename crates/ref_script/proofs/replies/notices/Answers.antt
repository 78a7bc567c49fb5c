use Rattle.ref_script.proofs.Common.{arith, le-leb}
use Rattle.ref_script.proofs.replies.notices.Goals as goal

pub returns-in-Cycle : goal.returns-in-Cycle
returns-in-Cycle c = grind (arith, le-leb)
