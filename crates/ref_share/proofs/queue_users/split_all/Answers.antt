use Rattle.ref_share.proofs.Common.{[], ◌∷◌, Some, arith, inl, inr, length-append, slice_get, subst, ◌∙◌, ◌≡◌}
use Rattle.ref_share.proofs.Common.{IsQueueSeat, queue_view}
use Rattle.std.proofs.lemmas.Option.{slice_get_cases}
use Rattle.ref_turn.specs.Seats.{Begins}
use Rattle.ref_share.proofs.SeatLists.{each_then, place_more}
use Rattle.ref_share.specs.Users.{BeginsWith, KnowsAsMuch}
use Rattle.ref_share.proofs.queue_users.split_all.Goals as goal

pub loop-place-preserved : goal.loop-place-preserved
loop-place-preserved g c =
    let so_far = c.loop-place.invariant in
    let before = c.args.seats.now in
    let now = c.loop-place.seats in
    let more = c.loop-place.more.items in
    let seat = c.split_at.result in
    let know = each_then KnowsAsMuch KnowsAsMuch (λ x y z first second. second ∙ first) before now c.split_at.new.seats
    so_far.1 c.split_at.ensures.know in
    let own = place_more IsQueueSeat c.args.queues.now more seat so_far.3.0
    (λ queue at. c.split_at.ensures.own queue
    (subst (λ i. slice_get c.args.queues.now i ≡ Some queue) so_far.2.0 at)) in
    let begin = place_more BeginsWith before more seat so_far.3.1
    (λ old at. elim (slice_get_cases now c.loop-place.place).1 [
      | inl has ↦
          let there = subst (λ i. slice_get before i ≡ Some old) so_far.2.0 at in
          subst (λ v. Begins v (queue_view seat)) (so_far.1.1 c.loop-place.place old has.0 there has.2)
          (c.split_at.ensures.begins has.0 has.2)
      | inr past ↦ absurd (omega (arith, past.0, c.loop-place-test.true, so_far.0.1))
    ]) in
    rw (c.push_reserved.ensures.items, c.push_reserved.ensures.capacity) (
      c.split_at.ensures.seats,
      know,
      (omega (arith, so_far.2.0, length-append more (seat ∷ [])), so_far.2.1),
      (own, begin),
    )
