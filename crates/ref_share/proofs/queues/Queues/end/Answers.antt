use Rattle.ref_share.proofs.Common.{◌≡◌, [], ◌∷◌, ◌++◌, length, ap, subst, arith, length-append, AreSeats}
use Rattle.ref_share.proofs.SeatLists.{seat_last, seats_before}
use Rattle.ref_share.proofs.queues.Queues.end.Goals as goal

pub finish-requires : goal.finish-requires
finish-requires g c =
    let queues = c.pop.new.self.items in
    let seats = c.pop-in-Some.new.self.items in
    let are = subst (λ l. AreSeats (queues ++ c.in-Some.queue ∷ []) l) c.in-Some-pop.ensures.items
    (subst (λ l. AreSeats l c.loop-queue.seats.items) c.in-Some.ensures.items c.loop-queue.invariant.0) in
    let even : length seats ≡ length queues =
    omega (
      arith,
      ap length c.in-Some.ensures.items,
      ap length c.in-Some-pop.ensures.items,
      length-append queues (c.in-Some.queue ∷ []),
      length-append seats (c.in-Some-pop.seat ∷ []),
      c.loop-queue.invariant.1,
    ) in
    seat_last queues seats c.in-Some.queue c.in-Some-pop.seat are even

pub loop-queue-preserved : goal.loop-queue-preserved
loop-queue-preserved g c =
    let queues = c.pop.new.self.items in
    let seats = c.pop-in-Some.new.self.items in
    let are = subst (λ l. AreSeats (queues ++ c.in-Some.queue ∷ []) l) c.in-Some-pop.ensures.items
    (subst (λ l. AreSeats l c.loop-queue.seats.items) c.in-Some.ensures.items c.loop-queue.invariant.0) in (
      seats_before queues seats c.in-Some.queue c.in-Some-pop.seat are,
      omega (
        arith,
        ap length c.in-Some.ensures.items,
        ap length c.in-Some-pop.ensures.items,
        length-append queues (c.in-Some.queue ∷ []),
        length-append seats (c.in-Some-pop.seat ∷ []),
        c.loop-queue.invariant.1,
      ),
    )
