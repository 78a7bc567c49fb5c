use Rattle.refrun.proofs.Common.{arith}
use Rattle.refrun.proofs.ListChecks.{end_reached}
use Rattle.refrun.proofs.lists.is_in_order.Goals as goal

pub returns : goal.returns
returns c = grind (arith, end_reached)
