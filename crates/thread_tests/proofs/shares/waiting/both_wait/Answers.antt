use Rattle.ref_share.proofs.Crossing.{crossing}
use Rattle.thread_tests.proofs.shares.told.Told.TheSendSync.{the_send as told_send}
use Rattle.thread_tests.proofs.shares.waiting.both_wait.Goals as goal

pub join-requires-send-F : goal.join-requires-send-F
join-requires-send-F g c κs within = search (told_send, crossing) depth 60 fits 20000

pub join-requires-send-A : goal.join-requires-send-A
join-requires-send-A g c κs within = search (told_send, crossing) depth 60 fits 20000
