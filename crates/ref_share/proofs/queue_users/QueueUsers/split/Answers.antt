use Rattle.ref_share.proofs.Common.{arith}
use Rattle.ref_share.proofs.SeatLists.{written_over}
use Rattle.ref_share.proofs.queue_users.QueueUsers.split.Goals as goal

pub split_all-requires-clause-seats : goal.split_all-requires-clause-seats
split_all-requires-clause-seats g c = rw c.deref_mut.ensures.value c.self.invariant

pub invariant_of-self : goal.invariant_of-self
invariant_of-self g c =
    let back = written_over c.split_all.new.seats c.self.inside.seats.items c.self.inside.seats.len
    c.self.inside.seats.ok.0 (omega (arith, c.split_all.ensures.seats.1, c.self.invariant.1)) in
    rw back c.split_all.ensures.seats

pub returns-clause-seats : goal.returns-clause-seats
returns-clause-seats g c =
    let back = written_over c.split_all.new.seats c.self.inside.seats.items c.self.inside.seats.len
    c.self.inside.seats.ok.0 (omega (arith, c.split_all.ensures.seats.1, c.self.invariant.1)) in
    rw (back, ← c.self.view_is, ← c.deref_mut.ensures.value) c.split_all.ensures.know

pub returns-clause-begin : goal.returns-clause-begin
returns-clause-begin g c = rw (← c.self.view_is, ← c.deref_mut.ensures.value) c.split_all.ensures.begin
