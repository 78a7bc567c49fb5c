use Rattle.ref_share.proofs.Common.{Some, ap, arith, inl, inr, sym, ◌∙◌, slice_get-get_or}
use Rattle.std.proofs.lemmas.Option.{slice_get_cases}
use Rattle.ref_share.proofs.SeatLists.{written_over}
use Rattle.ref_share.proofs.queue_users.QueueUsers.user.Goals as goal

pub split_at-seat-requires-clause-seats : goal.split_at-seat-requires-clause-seats
split_at-seat-requires-clause-seats g c = rw c.deref_mut.ensures.value c.self.invariant

pub invariant_of-result : goal.invariant_of-result
invariant_of-result g c =
    let queue = c.index-queues-place.result in
    c.split_at-seat.ensures.own queue
    (slice_get-get_or c.self.inside.queues.now c.queue.inside.0 queue c.if-place-queues.false
    ∙ ap Some (sym c.index-queues-place.is))

pub invariant_of-self : goal.invariant_of-self
invariant_of-self g c =
    let back = written_over c.split_at-seat.new.seats c.self.inside.seats.items c.self.inside.seats.len
    c.self.inside.seats.ok.0 (omega (arith, c.split_at-seat.ensures.seats.1, c.self.invariant.1)) in
    rw back c.split_at-seat.ensures.seats

pub returns-clause-seats : goal.returns-clause-seats
returns-clause-seats g c =
    let back = written_over c.split_at-seat.new.seats c.self.inside.seats.items c.self.inside.seats.len
    c.self.inside.seats.ok.0 (omega (arith, c.split_at-seat.ensures.seats.1, c.self.invariant.1)) in
    rw (back, ← c.self.view_is, ← c.deref_mut.ensures.value) c.split_at-seat.ensures.know

pub returns-clause-user : goal.returns-clause-user
returns-clause-user g c =
    let queue = c.index-queues-place.result in
    rw (← c.self.view_is, ← c.queue.view_is)
    (slice_get-get_or c.self.inside.queues.now c.queue.inside.0 queue c.if-place-queues.false
    ∙ ap Some (sym c.index-queues-place.is))

pub returns-clause-begins : goal.returns-clause-begins
returns-clause-begins g c =
    let place = c.queue.inside.0 in
    rw (← c.self.view_is, ← c.queue.view_is)
    (elim (slice_get_cases c.self.inside.seats.items place).1 [
      | inl has ↦ (has.0, has.2, c.split_at-seat.ensures.begins has.0 (rw c.deref_mut.ensures.value has.2))
      | inr past ↦ absurd (omega (arith, past.0, c.if-place-queues.false, c.self.invariant.1))
    ])
