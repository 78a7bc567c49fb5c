use Rattle.ref_share.proofs.WorkerRuns.{put_in_clearing_order}
use Rattle.ref_share.proofs.laws.each_queue_gets_it_in_the_workers_clearing_order.Goals as goal

pub returns : goal.returns
returns g c = put_in_clearing_order
