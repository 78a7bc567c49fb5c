use Rattle.ref_share.proofs.Common.{◌≡◌, length, ap, arith}
use Rattle.ref_share.proofs.SeatLists.{written_over}
use Rattle.ref_share.proofs.heap_user.HeapUser.enqueue.Goals as goal

pub invariant_of-queues : goal.invariant_of-queues
invariant_of-queues g c =
    let after = c.enqueue.new.queue_seats in
    let even : length after ≡ length c.queues.inside.seats.items =
    omega (arith, c.enqueue.auto.queue_seats, ap length c.deref_mut.ensures.value) in
    let seats = c.queues.inside.seats in
    let back = written_over after seats.items seats.len seats.ok.0 even in
    rw back (c.enqueue.ensures.seats.1, omega (arith, even, c.queues.invariant.1))

pub returns-clause-calls : goal.returns-clause-calls
returns-clause-calls g c =
    let after = c.enqueue.new.queue_seats in
    let even : length after ≡ length c.queues.inside.seats.items =
    omega (arith, c.enqueue.auto.queue_seats, ap length c.deref_mut.ensures.value) in
    let seats = c.queues.inside.seats in
    let back = written_over after seats.items seats.len seats.ok.0 even in
    rw (back, ← c.queues.view_is, ← c.self.view_is, ← c.deref_mut.ensures.value) c.enqueue.ensures.calls
