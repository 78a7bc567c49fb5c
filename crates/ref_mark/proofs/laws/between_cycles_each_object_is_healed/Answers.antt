use Rattle.ref_mark.proofs.HealedMarks.{none_unhealed}
use Rattle.ref_mark.proofs.laws.between_cycles_each_object_is_healed.Goals as goal

pub returns : goal.returns
returns c = none_unhealed
