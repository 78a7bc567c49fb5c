use Rattle.ref_share.proofs.Crossing.{crossing}
use Rattle.thread_examples.proofs.buffer_pool.run.Goals as goal

pub join-by_worker-requires-send-F : goal.join-by_worker-requires-send-F
join-by_worker-requires-send-F g c κs within = search crossing depth 60 fits 20000
