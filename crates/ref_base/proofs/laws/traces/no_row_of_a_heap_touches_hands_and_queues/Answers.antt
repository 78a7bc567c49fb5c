use Rattle.ref_base.proofs.HeapRowLaws.{row_others}
use Rattle.ref_base.proofs.laws.traces.no_row_of_a_heap_touches_hands_and_queues.Goals as goal

pub returns : goal.returns
returns c = row_others
