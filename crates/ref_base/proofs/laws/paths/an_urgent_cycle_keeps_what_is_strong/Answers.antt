use Rattle.ref_base.proofs.KeptLaws.{strongly}
use Rattle.ref_base.proofs.laws.paths.an_urgent_cycle_keeps_what_is_strong.Goals as goal

pub returns : goal.returns
returns c = strongly
