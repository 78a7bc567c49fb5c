use Rattle.ref_share.proofs.Common.{◌<◌, List, Ok, Err, sym, ◌∙◌, subst, length, heap_view, HeldNotice}
use Rattle.ref_share.proofs.ReleasedRest.{GoesOn, none_left, one_kept, one_more, shorter}
use Rattle.ref_share.specs.Deliveries.{GoBack}
use Rattle.ref_share.proofs.delivery.give_all_back.Goals as goal

pub loop-notice-init : goal.loop-notice-init
loop-notice-init g c = (c.requires, λ released left w goes. goes)

pub release-requires : goal.release-requires
release-requires g c = c.loop-notice.invariant.0

pub returns-in-Err-clause-gives : goal.returns-in-Err-clause-gives
returns-in-Err-clause-gives g c =
    let v = heap_view c.args.seat.now in
    let w = heap_view c.release.new.seat in
    subst (λ (left : List HeldNotice). GoBack c.args.batch v (Err c.in-Err.back) left w)
    (sym c.take_first.ensures.after)
    (one_kept c.args.batch c.loop-notice.batch v (heap_view c.loop-notice.seat) c.loop-notice.invariant.1
    c.in-Some.notice c.into_hold.result w (sym c.take_first.ensures.answer ∙ c.in-Some.is) c.into_hold.ensures
    c.in-Err.back c.in-Err.ensures.releases)

pub loop-notice-smaller : goal.loop-notice-smaller
loop-notice-smaller g c =
    subst (λ (left : List HeldNotice). length left < length c.loop-notice.batch) (sym c.take_first.ensures.after)
    (shorter c.loop-notice.batch c.in-Some.notice (sym c.take_first.ensures.answer ∙ c.in-Some.is))

pub loop-notice-preserved : goal.loop-notice-preserved
loop-notice-preserved g c =
    let v = heap_view c.args.seat.now in
    let w = heap_view c.release.new.seat in (
      c.in_default-release.ensures.seat,
      subst (λ (left : List HeldNotice). GoesOn c.args.batch v left w) (sym c.take_first.ensures.after)
          (one_more c.args.batch c.loop-notice.batch v (heap_view c.loop-notice.seat) c.loop-notice.invariant.1
          c.in-Some.notice c.into_hold.result w (sym c.take_first.ensures.answer ∙ c.in-Some.is) c.into_hold.ensures
          c.in_default-release.ensures.releases),
    )

pub returns-clause-seat : goal.returns-clause-seat
returns-clause-seat g c = c.loop-notice.invariant.0

pub returns-clause-gives : goal.returns-clause-gives
returns-clause-gives g c =
    let v = heap_view c.args.seat.now in
    let w = heap_view c.loop-notice.seat in
    subst (λ (left : List HeldNotice). GoBack c.args.batch v (Ok tt) left w) (sym c.take_first.ensures.after)
    (none_left c.args.batch c.loop-notice.batch v w c.loop-notice.invariant.1
    (sym c.take_first.ensures.answer ∙ c.in_default.is))
