use Rattle.ref_process.proofs.RunOrder.{run_order}
use Rattle.ref_process.proofs.laws.what_was_cleared_is_handed_on_in_order.Goals as goal

pub returns : goal.returns
returns c = λ d rows e run i. run_order rows d e run i
