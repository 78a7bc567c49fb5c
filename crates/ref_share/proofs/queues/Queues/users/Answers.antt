use Rattle.ref_share.proofs.Common.{arith}
use Rattle.ref_share.proofs.SeatLists.{written_over}
use Rattle.ref_share.specs.Users.{AreSeated}
use Rattle.ref_share.proofs.queues.Queues.users.Goals as goal

pub split_all-requires-clause-seats : goal.split_all-requires-clause-seats
split_all-requires-clause-seats g c = rw (c.deref.ensures.value, c.deref_mut.ensures.value) c.self.invariant

pub invariant_of-self-2 : goal.invariant_of-self-2
invariant_of-self-2 g c =
    let own : AreSeated c.self.inside.queues.items c.split_all.new.seats =
    rw (← c.deref.ensures.value) c.split_all.ensures.seats in
    let back = written_over c.split_all.new.seats c.self.inside.seats.items c.self.inside.seats.len
    c.self.inside.seats.ok.0 (omega (arith, own.1, c.self.invariant.1)) in
    rw back own

pub invariant_of-result : goal.invariant_of-result
invariant_of-result g c = rw (c.deref-2.ensures.value, ← c.deref.ensures.value) c.split_all.ensures.own

pub returns-clause-begin : goal.returns-clause-begin
returns-clause-begin g c = rw (← c.self.view_is, ← c.deref_mut.ensures.value) c.split_all.ensures.begin
