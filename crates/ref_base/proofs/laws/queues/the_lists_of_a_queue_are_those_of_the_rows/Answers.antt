use Rattle.ref_base.proofs.AddedRows.{legal_lists}
use Rattle.ref_base.proofs.laws.queues.the_lists_of_a_queue_are_those_of_the_rows.Goals as goal

pub returns : goal.returns
returns c = legal_lists
