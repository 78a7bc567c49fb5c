use Rattle.ref_base.proofs.OneQueue.{one_queue}
use Rattle.ref_base.proofs.laws.notices.a_reference_is_registered_with_one_queue.Goals as goal

pub returns : goal.returns
returns c = one_queue
