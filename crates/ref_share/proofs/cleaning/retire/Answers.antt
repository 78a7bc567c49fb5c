use Rattle.ref_share.proofs.Common.{arith}
use Rattle.ref_share.proofs.CleanCalls.{tries_of_ask}
use Rattle.ref_share.proofs.cleaning.retire.Goals as goal

pub returns-clause-retires : goal.returns-clause-retires
returns-clause-retires g c = grind (arith, tries_of_ask)
