use Rattle.ref_script.proofs.Common.{ne_eqb}
use Rattle.ref_script.proofs.BatchWords.{cut_comma, cut_other}
use Rattle.ref_script.proofs.replies.comma_cut.Goals as goal

pub returns-then-last-eq44 : goal.returns-then-last-eq44
returns-then-last-eq44 c =
    cut_comma c.args.word.now c.in_ok-last.front.now c.in_ok-last.last.now c.in_ok-last.ensures.cases.0
    c.if-last-eq44.true

pub returns : goal.returns
returns c =
    cut_other c.args.word.now c.in_ok-last.front.now c.in_ok-last.last.now c.in_ok-last.ensures.cases.0
    (ne_eqb _ _ c.if-last-eq44.false)
