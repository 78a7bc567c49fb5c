use Rattle.ref_mark.proofs.MarkLaws.{each_step}
use Rattle.ref_mark.proofs.laws.each_step_of_marking_is_a_row.Goals as goal

pub returns : goal.returns
returns c = each_step
