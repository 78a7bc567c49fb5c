use Rattle.ref_share.proofs.Common.{Some, ap, arith, refl, subst, sym, ◌∙◌, slice_get-get_or}
use Rattle.std.proofs.lemmas.Option.{same_Some}
use Rattle.std.specs.Prelude.{slice_index_or}
use Rattle.ref_share.proofs.Places.{still_seats}
use Rattle.ref_share.proofs.SeatLists.{set_length}
use Rattle.ref_share.specs.Users.{HasClosed}
use Rattle.ref_share.proofs.queue_users.close_at.Goals as goal

pub close-requires : goal.close-requires
close-requires g c =
    let place = c.args.place in
    let seats = c.args.seats.now in
    c.requires.seats.0 place c.index-queues-place.result (slice_index_or seats place c.index-seats-place.result)
    (slice_get-get_or c.args.queues.now place c.index-queues-place.result c.requires.place
    ∙ ap Some (sym c.index-queues-place.is))
    (slice_get-get_or seats place c.index-seats-place.result (omega (arith, c.requires.place, c.requires.seats.1)))

pub returns-clause-seats : goal.returns-clause-seats
returns-clause-seats g c =
    let queues = c.args.queues.now in
    let seats = c.args.seats.now in
    let place = c.args.place in
    let queue = c.index-queues-place.result in (
      still_seats queues seats place queue c.close.new.seat c.requires.seats.0
          (slice_get-get_or queues place queue c.requires.place ∙ ap Some (sym c.index-queues-place.is))
          c.close.ensures.seat,
      set_length seats place c.close.new.seat ∙ c.requires.seats.1,
    )

pub returns-clause-closes : goal.returns-clause-closes
returns-clause-closes g c = λ seat at.
    let seats = c.args.seats.now in
    let place = c.args.place in
    let old = c.index-seats-place.result in
    let there = slice_get-get_or seats place old (omega (arith, c.requires.place, c.requires.seats.1)) in
    let has : HasClosed (slice_index_or seats place old) c.close.new.seat =
    (c.close.result, c.close.ensures.closes) in (
      c.close.new.seat,
      refl,
      subst (λ s. HasClosed s c.close.new.seat)
          (same_Some (slice_index_or seats place old) seat (sym there ∙ at)) has,
    )
