use Rattle.ref_clear.proofs.HeapLaws.{each_step}
use Rattle.ref_clear.proofs.laws.each_step_of_a_heap_is_a_row.Goals as goal

pub returns : goal.returns
returns c = each_step
