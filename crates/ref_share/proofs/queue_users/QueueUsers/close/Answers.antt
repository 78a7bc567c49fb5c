use Rattle.ref_share.proofs.Common.{arith}
use Rattle.ref_share.proofs.SeatLists.{written_over}
use Rattle.ref_share.proofs.queue_users.QueueUsers.close.Goals as goal

pub close_all-requires : goal.close_all-requires
close_all-requires g c = rw c.deref_mut.ensures.value c.self.invariant

pub invariant_of-self : goal.invariant_of-self
invariant_of-self g c =
    let even = c.close_all.ensures.seats.1 in
    let back = written_over c.close_all.new.seats c.self.inside.seats.items c.self.inside.seats.len
    c.self.inside.seats.ok.0 (omega (arith, even, c.self.invariant.1)) in
    rw back c.close_all.ensures.seats

pub returns-clause-closes : goal.returns-clause-closes
returns-clause-closes g c =
    let even = c.close_all.ensures.seats.1 in
    let back = written_over c.close_all.new.seats c.self.inside.seats.items c.self.inside.seats.len
    c.self.inside.seats.ok.0 (omega (arith, even, c.self.invariant.1)) in
    rw (back, ← c.self.view_is, ← c.deref_mut.ensures.value) c.close_all.ensures.close
