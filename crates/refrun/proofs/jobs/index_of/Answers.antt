use Rattle.refrun.proofs.Common.{arith}
use Rattle.refrun.proofs.jobs.index_of.Goals as goal

pub returns : goal.returns
returns g c = grind arith
