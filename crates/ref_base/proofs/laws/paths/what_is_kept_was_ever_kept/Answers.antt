use Rattle.ref_base.proofs.KeptLaws.{ever_kept}
use Rattle.ref_base.proofs.laws.paths.what_is_kept_was_ever_kept.Goals as goal

pub returns : goal.returns
returns c = ever_kept
