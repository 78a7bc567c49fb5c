use Rattle.ref_share.proofs.ApartRuns.{is_apart}
use Rattle.ref_share.proofs.laws.what_is_registered_apart_is_in_no_slot.Goals as goal

pub returns : goal.returns
returns c = is_apart
