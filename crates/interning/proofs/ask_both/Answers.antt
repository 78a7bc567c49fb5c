use Rattle.ref_share.proofs.Crossing.{crossing}
use Rattle.interning.proofs.ask_both.Goals as goal

pub join-requires-send-F : goal.join-requires-send-F
join-requires-send-F g c κs within = search crossing depth 60 fits 20000
