use denote.Ref.{NamedLft}
use denote.Param.Send.{IsSend, sendable}
use Rattle.std.proofs.Crossing.{crosses}
use Rattle.ref_share.proofs.Crossing.{shared}
use Rattle.ref_bench.specs.contracts.heap_runs.Caller.{the_row as caller_row}
use Rattle.ref_bench.proofs.heap_runs.heap_calls.Goals as goal

pub callers-requires : goal.callers-requires
callers-requires g c =
    let made = c.in_ok-heap.ensures.made in
    rw (made.config_is, made.number_is) made.seat.seat

-- a caller may go to a thread of its own
caller_send : (κ : NamedLft) → IsSend (caller_row κ)
caller_send κ = search (shared, crosses, sendable) depth 60 fits 20000

pub map_vec-requires-send-J : goal.map_vec-requires-send-J
map_vec-requires-send-J g c κs within = search (caller_send, crosses, sendable) depth 60 fits 20000
