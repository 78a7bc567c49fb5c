use Rattle.ref_base.proofs.HeapRowLaws.{carried_row}
use Rattle.ref_base.proofs.laws.traces.a_row_of_a_heap_is_a_row_of_its_world.Goals as goal

pub returns : goal.returns
returns c = carried_row
