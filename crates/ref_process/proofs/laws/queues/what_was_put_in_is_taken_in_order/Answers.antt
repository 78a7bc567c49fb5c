use Rattle.ref_process.proofs.NoticeRuns.{run_in_order}
use Rattle.ref_process.proofs.laws.queues.what_was_put_in_is_taken_in_order.Goals as goal

pub returns : goal.returns
returns c = λ q rows e run. run_in_order rows q e run
