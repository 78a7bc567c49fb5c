use Rattle.ref_process.proofs.RunKeys.{run_queue}
use Rattle.ref_process.proofs.laws.a_reference_keeps_its_queue.Goals as goal

pub returns : goal.returns
returns c = λ d rows e run k r s before after. run_queue rows d e run k r s before after
