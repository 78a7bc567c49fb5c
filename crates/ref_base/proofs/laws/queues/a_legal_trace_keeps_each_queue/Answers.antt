use Rattle.ref_base.proofs.LegalQueues.{legal_keeps_queue}
use Rattle.ref_base.proofs.laws.queues.a_legal_trace_keeps_each_queue.Goals as goal

pub returns : goal.returns
returns c = legal_keeps_queue
