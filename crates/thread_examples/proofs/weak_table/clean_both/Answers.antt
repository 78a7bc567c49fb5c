use Rattle.ref_share.proofs.Crossing.{crossing}
use Rattle.thread_examples.proofs.Crossing.{keeper_send}
use Rattle.thread_examples.proofs.weak_table.clean_both.Goals as goal

pub join-requires-send-F : goal.join-requires-send-F
join-requires-send-F g c κs within = search (keeper_send, crossing) depth 60 fits 20000
