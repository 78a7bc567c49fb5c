use Rattle.ref_share.proofs.OnceRuns.{handed_on_once}
use Rattle.ref_share.proofs.laws.each_reference_is_handed_on_at_most_once.Goals as goal

pub returns : goal.returns
returns c = handed_on_once
