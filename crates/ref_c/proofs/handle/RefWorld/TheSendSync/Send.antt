-- A handle may go to another thread, as its world may.
use mir.Raw.{raw}
use base.Shift.{Keyless}
use denote.RawPtr.{Ptr}
use denote.Memory.{lone}
use denote.Struct.Struct.{exits_of}
use denote.Struct.Owning.{shape, fields, to}
use denote.Param.Send.{IsSend, AllSend, owning_send, struct_send, sendable}
use Rattle.std.proofs.Crossing.{crosses, frees}
use Rattle.std.specs.declared.option.Option.{Option}
use Rattle.std.specs.declared.option.Option.TheVariants.{None, Some}
use Rattle.std_alloc.proofs.SendSync.{quiet, lies}
use Rattle.ref_c.specs.Holding.{KeptWorld, holds_world}
use Rattle.ref_c.specs.contracts.kept.Kept as kept
use Rattle.ref_c.specs.contracts.handle.RefWorld.{the_row, the_type}

kept_send : IsSend kept.the_row
kept_send = search (crosses, sendable) depth 60 fits 20000

keyless : (p : Ptr) (x : Option KeptWorld) → Keyless (holds_world p x)
keyless p None = tt
keyless p (Some x) = λ a. (lies kept.the_row kept_send p x, frees.frees a (raw (lone (kept.the_row).mir)) p)

pub send : IsSend the_row
send =
    let all : AllSend (fields the_type) = (search sendable, tt) in
    owning_send the_type all (λ d. keyless d.at d.held)
    (λ k. quiet (to the_type) (exits_of k (fields the_type)) ((struct_send (shape the_type) all).leaving k))
