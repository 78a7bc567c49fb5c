use Rattle.ref_share.proofs.WorkerRuns.{keeps_pace}
use Rattle.ref_share.proofs.laws.each_queue_gets_what_a_worker_hands_on.Goals as goal

pub returns : goal.returns
returns g c = keeps_pace
