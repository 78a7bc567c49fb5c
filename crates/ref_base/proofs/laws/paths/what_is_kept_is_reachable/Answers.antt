use Rattle.ref_base.proofs.KeptLaws.{kept_is_reachable}
use Rattle.ref_base.proofs.laws.paths.what_is_kept_is_reachable.Goals as goal

pub returns : goal.returns
returns c = kept_is_reachable
