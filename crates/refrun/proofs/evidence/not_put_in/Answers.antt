use Rattle.refrun.proofs.Common.{◌≡◌, true, length, refl, subst, arith, has, slice_get_read, Contains}
use Rattle.refrun.proofs.NoEvidence.{next_list_of_all}
use Rattle.refrun.proofs.evidence.not_put_in.Goals as goal

pub returns-in-Some-clause-shows : goal.returns-in-Some-clause-shows
returns-in-Some-clause-shows g c =
    let kept = c.args.kept.now in
    let v = c.index-kept-mutator.result in (
      c.loop-mutator.mutator,
      v,
      slice_get_read kept (length kept) c.loop-mutator.mutator v refl (omega arith) c.index-kept-mutator.is,
      subst (λ ns. Contains ns c.in-Some.number) c.as_slice.ensures.value c.in-Some.ensures.shows.0,
      c.in-Some.ensures.shows.1,
    )

pub loop-mutator-preserved : goal.loop-mutator-preserved
loop-mutator-preserved g c =
    next_list_of_all (λ v. v.items) c.args.kept.now c.loop-mutator.mutator c.index-kept-mutator.result
    c.as_slice.result.now (omega arith) c.index-kept-mutator.is c.as_slice.ensures.value
    (λ n. has c.args.enqueued.now n ≡ true) c.loop-mutator.invariant c.in_default.ensures.passes
