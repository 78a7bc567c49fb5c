use denote.Param.Send.{IsSend, sendable}
use Rattle.std.proofs.Crossing.{crosses}
use Rattle.std.specs.contracts.alloc.Global.{the_row}
use Rattle.std.specs.contracts.impls.GlobalAllocator.TheImpl.{ghosts}
use Rattle.ref_share.proofs.Crossing.{shared}
use Rattle.thread_tests.proofs.shares.told.Told.TheSendSync.{the_send as told_send}
use Rattle.thread_tests.specs.contracts.shares.Seats.{the_row as seats_row}
use Rattle.thread_tests.proofs.shares.threads.both_told.Goals as goal

-- seats may go to another thread: a search at the goal need not look into them
seats_send : IsSend (seats_row the_row ghosts)
seats_send = search (shared, crosses, sendable) depth 60 fits 20000

pub join-first-requires-send-F : goal.join-first-requires-send-F
join-first-requires-send-F g c κs within = search (seats_send, shared, crosses, sendable) depth 60 fits 20000

pub join-first-requires-send-A : goal.join-first-requires-send-A
join-first-requires-send-A g c κs within = search (seats_send, told_send, crosses, sendable) depth 60 fits 20000
