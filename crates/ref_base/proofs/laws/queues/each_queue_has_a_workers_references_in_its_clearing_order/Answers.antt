use Rattle.ref_base.proofs.ClearingTraces.{legal_in_order}
use Rattle.ref_base.proofs.laws.queues.each_queue_has_a_workers_references_in_its_clearing_order.Goals as goal

pub returns : goal.returns
returns c = legal_in_order
