use Rattle.std.proofs.Common.{◌∙◌, sym}
use Rattle.ref_judge.proofs.OtherFinders.{others_none, others_own}
use Rattle.ref_judge.proofs.worker.may_others_have_more.Goals as goal
use Rattle.ref_judge.proofs.worker.may_others_have_more.Goals.{else-place-this-via-then-place-this+else-may_have_more}
use Rattle.ref_judge.proofs.worker.may_others_have_more.Goals.{else-place-this-via-else-place-this}

pub loop-place-preserved : goal.loop-place-preserved
loop-place-preserved g c =
    let k = c.args.this in
    let ws = c.args.workers.now in
    elim c.else-place-this.branch [
      | else-place-this-via-then-place-this+else-may_have_more w ↦
          others_none k c.loop-place.place ws w.index-workers-place.result c.loop-place-test.true
          w.index-workers-place.is (sym w.may_have_more.ensures ∙ w.if-may_have_more.false) ∙ c.loop-place.invariant
      | else-place-this-via-else-place-this w ↦
          others_own k c.loop-place.place ws c.loop-place-test.true w.if-place-this.false ∙ c.loop-place.invariant
    ]
