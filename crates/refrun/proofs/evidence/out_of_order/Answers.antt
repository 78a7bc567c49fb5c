use Rattle.refrun.proofs.Common.{◌≡◌, ◌+◌, false, length, Some, refl, subst, arith, slice_get_read, is_subsequence}
use Rattle.std.specs.Prelude.{slice_get, slice_range}
use Rattle.refrun.specs.StressEvidence.{before_place}
use Rattle.refrun.proofs.evidence.out_of_order.Goals as goal

pub returns-in-Some-clause-shows : goal.returns-in-Some-clause-shows
returns-in-Some-clause-shows g c =
    let lists = c.args.lists.now in
    let v = c.index-lists-poller.result in
    let list = c.as_slice-list.result.now in
    let value = c.as_slice-list.ensures.value in
    let place = c.in-Some.place in
    let n = c.index-list-place.result in (
      v,
      place,
      slice_get_read lists (length lists) c.loop-poller.poller v refl (omega arith) c.index-lists-poller.is,
      subst (λ ns. slice_get ns place ≡ Some n) value
          (slice_get_read list (length list) place n refl c.in-Some.ensures.within c.index-list-place.is),
      subst (λ ns. c.number_before.result ≡ before_place ns place) value c.number_before.ensures,
      subst (λ ns. is_subsequence (slice_range ns 0 (place + 1)) c.args.enqueued.now ≡ false) value
          c.in-Some.ensures.out,
    )
