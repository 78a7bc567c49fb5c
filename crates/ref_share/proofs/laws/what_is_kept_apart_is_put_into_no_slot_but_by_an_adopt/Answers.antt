use Rattle.ref_share.proofs.KeptRuns.{stays_apart}
use Rattle.ref_share.proofs.laws.what_is_kept_apart_is_put_into_no_slot_but_by_an_adopt.Goals as goal

pub returns : goal.returns
returns c = stays_apart
