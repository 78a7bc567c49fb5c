use Rattle.ref_script.proofs.Common.{sym, ne_eqb}
use Rattle.ref_script.specs.LineViews.{line_of}
use Rattle.ref_script.proofs.Cuts.{content_before_cr, content_kept}
use Rattle.ref_script.proofs.lines.Line.content.Goals as goal

pub returns-in-Some : goal.returns-in-Some
returns-in-Some c =
    sym (content_before_cr (line_of c.args.self.now) c.in-Some.front.now c.in-Some.last.now c.if-not-self.false
    c.in-Some.ensures.cases.0 c.if-last-eq13.true)

pub returns-in_default : goal.returns-in_default
returns-in_default c =
    sym (content_kept (line_of c.args.self.now) c.in-Some.front.now c.in-Some.last.now c.if-not-self.false
    c.in-Some.ensures.cases.0 (ne_eqb _ _ c.if-last-eq13.false))
