use Rattle.ref_share.proofs.Common.{arith, inl, inr, subst, sym, ◌+◌}
use Rattle.std.proofs.lemmas.Option.{slice_get_cases}
use Rattle.ref_share.proofs.SeatLists.{AreClosedTo, one_more_closed, all_closed}
use Rattle.ref_share.proofs.queue_users.close_all.Goals as goal

pub loop-place-preserved : goal.loop-place-preserved
loop-place-preserved g c =
    let place = c.loop-place.place in
    let now = c.loop-place.seats in
    elim (slice_get_cases now place).1 [
      | inl has ↦
          let closes = c.close_at.ensures.closes has.0 has.2 in (
            c.close_at.ensures.seats,
            subst (λ seats. AreClosedTo (place + 1) c.args.seats.now seats) (sym closes.1)
                (one_more_closed place c.args.seats.now now has.0 closes.0 c.loop-place.invariant.1 has.2 closes.2),
          )
      | inr past ↦ absurd (omega (arith, past.0, c.loop-place-test.true, c.loop-place.invariant.0.1))
    ]

pub returns-clause-close : goal.returns-clause-close
returns-clause-close g c =
    all_closed c.loop-place.place c.args.seats.now c.loop-place.seats c.loop-place.invariant.1
    (omega (arith, c.loop-place-test.false, c.requires.1)) (omega (arith, c.loop-place.invariant.0.1, c.requires.1))
