use denote.Param.Send.{sendable}
use Rattle.std.proofs.Crossing.{crosses}
use Rattle.ref_share.proofs.Crossing.{heap_sync, own_send, queue_sync, stop_sync}
use Rattle.ref_share.proofs.collector.go_beside.Goals as goal

pub join-left-requires-send-F : goal.join-left-requires-send-F
join-left-requires-send-F g c κs within =
    search (own_send, heap_sync, queue_sync, stop_sync, crosses, sendable) depth 60 fits 20000

pub join-left-requires-send-A : goal.join-left-requires-send-A
join-left-requires-send-A g c κs within = search (own_send, crosses, sendable) depth 60 fits 20000
