use Rattle.ref_share.proofs.Common.{Some, ap, arith, refl, subst, sym, ◌∙◌, slice_get-get_or, IsQueueSeat}
use Rattle.std.proofs.lemmas.Option.{same_Some}
use Rattle.std.specs.Prelude.{slice_index_or}
use Rattle.ref_share.proofs.Places.{still_seats}
use Rattle.ref_share.proofs.SeatLists.{place_changed, set_length}
use Rattle.ref_share.specs.Users.{BeginsWith, KnowsAsMuch}
use Rattle.ref_share.proofs.queue_users.split_at.Goals as goal

pub split-requires : goal.split-requires
split-requires g c =
    let place = c.args.place in
    let seats = c.args.seats.now in
    c.requires.seats.0 place c.index-queues-place.result (slice_index_or seats place c.index-seats-place.result)
    (slice_get-get_or c.args.queues.now place c.index-queues-place.result c.requires.place
    ∙ ap Some (sym c.index-queues-place.is))
    (slice_get-get_or seats place c.index-seats-place.result (omega (arith, c.requires.place, c.requires.seats.1)))

pub returns-clause-seats : goal.returns-clause-seats
returns-clause-seats g c =
    let queues = c.args.queues.now in
    let seats = c.args.seats.now in
    let place = c.args.place in
    let queue = c.index-queues-place.result in (
      still_seats queues seats place queue c.split.new.seat c.requires.seats.0
          (slice_get-get_or queues place queue c.requires.place ∙ ap Some (sym c.index-queues-place.is))
          c.split.ensures.seat.0,
      set_length seats place c.split.new.seat ∙ c.requires.seats.1,
    )

pub returns-clause-know : goal.returns-clause-know
returns-clause-know g c =
    let seats = c.args.seats.now in
    let place = c.args.place in
    let seat = c.index-seats-place.result in
    place_changed KnowsAsMuch (λ s. refl) seats place (slice_index_or seats place seat) c.split.new.seat
    (slice_get-get_or seats place seat (omega (arith, c.requires.place, c.requires.seats.1))) c.split.ensures.same

pub returns-clause-own : goal.returns-clause-own
returns-clause-own g c = λ queue at.
    let own = c.index-queues-place.result in
    let there = slice_get-get_or c.args.queues.now c.args.place own c.requires.place
    ∙ ap Some (sym c.index-queues-place.is) in
    subst (λ q. IsQueueSeat q c.split.result) (same_Some own queue (sym there ∙ at)) c.split.ensures.seat.1

pub returns-clause-begins : goal.returns-clause-begins
returns-clause-begins g c = λ seat at.
    let seats = c.args.seats.now in
    let place = c.args.place in
    let old = c.index-seats-place.result in
    let there = slice_get-get_or seats place old (omega (arith, c.requires.place, c.requires.seats.1)) in
    subst (λ s. BeginsWith s c.split.result) (same_Some (slice_index_or seats place old) seat (sym there ∙ at))
    c.split.ensures.begins
