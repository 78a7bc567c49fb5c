use Rattle.std.proofs.Common.{[], ◌∷◌, ◌++◌, length, ap, sym, subst, arith, length-append}
use Rattle.ref_share.proofs.SeatLists.{new_seat, seat_more}
use Rattle.ref_share.specs.Deliveries.{AreSeats}
use Rattle.thread_tests.proofs.shares.many_queues.Lists.add.Goals as goal

pub returns : goal.returns
returns g c =
    let queues = c.args.self.now.queues.items in
    let seats = c.args.self.now.seats.items in
    let queue = c.in-Ok.made.0 in
    let seat = c.in-Ok.made.1 in
    let more = seat_more queues seats queue seat c.requires.0 c.requires.1
    (new_seat queue c.args.number c.args.first seat c.in-Ok.ensures.made) in (
      subst (λ l. AreSeats l c.push-2.new.self.items) (sym c.in_default.ensures.items)
          (subst (λ l. AreSeats (queues ++ queue ∷ []) l) (sym c.in_default-push.ensures.items) more),
      omega (
        arith,
        ap length c.in_default.ensures.items,
        ap length c.in_default-push.ensures.items,
        length-append queues (queue ∷ []),
        length-append seats (seat ∷ []),
        c.requires.1,
      ),
    )
