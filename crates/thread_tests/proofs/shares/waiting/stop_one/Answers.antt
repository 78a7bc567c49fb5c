use Rattle.ref_share.proofs.Crossing.{crossing}
use Rattle.thread_tests.proofs.shares.told.Told.TheSendSync.{the_send as told_send}
use Rattle.thread_tests.proofs.shares.waiting.stop_one.Goals as goal

pub join-told-requires-send-F : goal.join-told-requires-send-F
join-told-requires-send-F g c κs within = search (told_send, crossing) depth 60 fits 20000

pub join-told-requires-send-A : goal.join-told-requires-send-A
join-told-requires-send-A g c κs within = search (told_send, crossing) depth 60 fits 20000
