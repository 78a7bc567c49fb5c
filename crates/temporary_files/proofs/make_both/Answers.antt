use Rattle.ref_share.proofs.Crossing.{crossing}
use Rattle.temporary_files.proofs.Crossing.{hand_send}
use Rattle.temporary_files.proofs.make_both.Goals as goal

pub join-requires-send-F : goal.join-requires-send-F
join-requires-send-F g c κs within = search (hand_send, crossing) depth 60 fits 20000
