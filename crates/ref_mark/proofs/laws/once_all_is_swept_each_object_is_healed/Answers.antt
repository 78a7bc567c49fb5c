use Rattle.ref_mark.proofs.HealedMarks.{swept_healed}
use Rattle.ref_mark.proofs.laws.once_all_is_swept_each_object_is_healed.Goals as goal

pub returns : goal.returns
returns c = swept_healed
