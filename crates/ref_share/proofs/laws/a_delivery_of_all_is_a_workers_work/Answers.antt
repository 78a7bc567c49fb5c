use Rattle.ref_share.proofs.CycleRuns.{delivery_of_all_works}
use Rattle.ref_share.proofs.laws.a_delivery_of_all_is_a_workers_work.Goals as goal

pub returns : goal.returns
returns g c k worker queues = delivery_of_all_works k queues worker
