use Rattle.refrun.proofs.Common.{◌≡◌, true, length, refl, subst, arith, has, slice_get_read, Contains}
use Rattle.refrun.proofs.NoEvidence.{next_list_of_all}
use Rattle.refrun.proofs.evidence.not_given.Goals as goal

pub returns-in-Some-clause-shows : goal.returns-in-Some-clause-shows
returns-in-Some-clause-shows g c =
    let lists = c.args.lists.now in
    let v = c.index-lists-poller.result in (
      v,
      slice_get_read lists (length lists) c.loop-poller.poller v refl (omega arith) c.index-lists-poller.is,
      subst (λ ns. Contains ns c.in-Some.number) c.as_slice.ensures.value c.in-Some.ensures.shows.0,
      c.in-Some.ensures.shows.1,
    )

pub loop-poller-preserved : goal.loop-poller-preserved
loop-poller-preserved g c =
    next_list_of_all (λ v. v.items) c.args.lists.now c.loop-poller.poller c.index-lists-poller.result
    c.as_slice.result.now (omega arith) c.index-lists-poller.is c.as_slice.ensures.value
    (λ n. has c.args.taken.now n ≡ true) c.loop-poller.invariant c.in_default.ensures.passes
