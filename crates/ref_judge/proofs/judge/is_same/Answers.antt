use Rattle.std.proofs.Common.{arith}
use Rattle.ref_judge.proofs.SameReplies.{reply_same}
use Rattle.ref_judge.proofs.judge.is_same.Goals as goal

pub returns-clause-same : goal.returns-clause-same
returns-clause-same c =
    let same = reply_same c.args.answer c.args.reply in
    let e = c.eq.ensures in
    grind (arith, same, e)

pub returns-clause-differ : goal.returns-clause-differ
returns-clause-differ c =
    let same = reply_same c.args.answer c.args.reply in
    let e = c.eq.ensures in
    grind (arith, same, e)
