use Rattle.refrun.proofs.Common.{length, refl, subst, arith, slice_get_read, Contains}
use Rattle.refrun.proofs.NoEvidence.{none_distinct, next_list_distinct, next_list_lacks}
use Rattle.refrun.proofs.evidence.taken_twice.Goals as goal

pub returns-in-Some-clause-shows : goal.returns-in-Some-clause-shows
returns-in-Some-clause-shows g c =
    let lists = c.args.lists.now in
    let v = c.index-lists-poller.result in
    let there = slice_get_read lists (length lists) c.loop-poller.poller v refl (omega arith) c.index-lists-poller.is in
    let stands = subst (λ ns. Contains ns c.in-Some.number) c.as_slice-list.ensures.value c.in-Some.ensures.shows in
    (v, v, there, there, stands, stands)

pub returns-in-Some-number_of_both-clause-shows : goal.returns-in-Some-number_of_both-clause-shows
returns-in-Some-number_of_both-clause-shows g c =
    let lists = c.args.lists.now in
    let v = c.index-lists-poller.result in
    let w = c.index-lists-other.result in
    let n = c.in-Some-number_of_both.number in
    let both = c.in-Some-number_of_both.ensures.shows in (
      v,
      w,
      slice_get_read lists (length lists) c.loop-poller.poller v refl (omega arith) c.index-lists-poller.is,
      slice_get_read lists (length lists) c.loop-other.other w refl (omega arith) c.index-lists-other.is,
      subst (λ ns. Contains ns n) c.as_slice-list.ensures.value both.0,
      subst (λ ns. Contains ns n) c.as_slice.ensures.value both.1,
    )

pub loop-poller-init : goal.loop-poller-init
loop-poller-init g c = none_distinct

pub loop-other-preserved : goal.loop-other-preserved
loop-other-preserved g c = grind (arith, next_list_lacks)

pub loop-poller-preserved : goal.loop-poller-preserved
loop-poller-preserved g c = grind (arith, next_list_distinct)
