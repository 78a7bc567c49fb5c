use Rattle.ref_script.proofs.Common.{arith}
use Rattle.ref_script.proofs.BatchWords.{items_full}
use Rattle.ref_script.proofs.replies.batch.Goals as goal

pub returns : goal.returns
returns c =
    items_full c.args.before _ c.loop-rest.outs.done c.loop-rest.position _ c.loop-rest.invariant.1
    (omega (arith, c.len.ensures.count, c.loop-rest-test.false))
