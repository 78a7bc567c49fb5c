use Rattle.ref_share.proofs.Common.{◌≡◌, [], ◌∷◌, ◌++◌, length, sym, subst, arith, length-append}
use Rattle.ref_share.proofs.SeatLists.{new_seat, seat_more, new_more}
use Rattle.ref_share.specs.QueueSeats.{IsNewQueue}
use Rattle.ref_share.specs.Users.{AreNew, AreSeated}
use Rattle.ref_share.proofs.queues.Queues.add.Goals as goal

pub invariant_of-self : goal.invariant_of-self
invariant_of-self g c = rw c.reserve.ensures.items c.self.invariant

pub invariant_of-self-in_err-reserve-2 : goal.invariant_of-self-in_err-reserve-2
invariant_of-self-in_err-reserve-2 g c = rw (c.reserve.ensures.items, c.reserve-2.ensures.items) c.self.invariant

pub invariant_of-self-in_err-queue : goal.invariant_of-self-in_err-queue
invariant_of-self-in_err-queue g c = rw (c.reserve.ensures.items, c.reserve-2.ensures.items) c.self.invariant

pub invariant_of-self-2 : goal.invariant_of-self-2
invariant_of-self-2 g c =
    let queues = c.self.inside.queues.items in
    let seats = c.self.inside.seats.items in
    let queue = c.in_ok-queue.queue in
    let seat = c.in_ok-queue.seat in
    let more : AreSeated (queues ++ queue ∷ []) (seats ++ seat ∷ []) = (
      seat_more queues seats queue seat c.self.invariant.0 c.self.invariant.1
          (new_seat queue c.args.number 0 seat c.in_ok-queue.ensures.made),
      omega (
        arith,
        length-append queues (queue ∷ []),
        length-append seats (seat ∷ []),
        c.self.invariant.1,
      ),
    ) in
    rw (
      c.push_reserved.ensures.items,
      c.push_reserved-2.ensures.items,
      c.reserve.ensures.items,
      c.reserve-2.ensures.items,
    ) more

pub returns-clause-new : goal.returns-clause-new
returns-clause-new g c =
    let queues = c.self.inside.queues.items in
    let seats = c.self.inside.seats.items in
    let queue = c.in_ok-queue.queue in
    let seat = c.in_ok-queue.seat in
    let old : AreNew queues seats = subst (λ q. AreNew q.queues q.seats) (sym c.self.view_is) c.requires.new in
    let count : length queues ≡ c.args.number =
    subst (λ q. length q.queues ≡ c.args.number) (sym c.self.view_is) c.requires.number in
    let more : AreNew (queues ++ queue ∷ []) (seats ++ seat ∷ []) =
    new_more queues seats queue seat old
    (subst (λ n. IsNewQueue queue n 0 seat) (sym count) c.in_ok-queue.ensures.made) in
    rw (
      c.push_reserved.ensures.items,
      c.push_reserved-2.ensures.items,
      c.reserve.ensures.items,
      c.reserve-2.ensures.items,
    ) more
