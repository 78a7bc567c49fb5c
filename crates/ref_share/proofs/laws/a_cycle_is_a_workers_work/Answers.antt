use Rattle.ref_share.proofs.CycleRuns.{cycle_works}
use Rattle.ref_share.proofs.laws.a_cycle_is_a_workers_work.Goals as goal

pub returns : goal.returns
returns g c k worker now urgency queues = cycle_works k queues worker now urgency
