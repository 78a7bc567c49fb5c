use Rattle.std.proofs.Common.{sym, ◌∙◌}
use Rattle.std.proofs.lemmas.Bool.{ne_eqb}
use Rattle.ref_log.specs.Streams.{line_in}
use Rattle.ref_script.proofs.Cuts.{content_before_cr, content_kept}
use Rattle.ref_log.proofs.told.content.Goals as goal

pub returns-in-Some : goal.returns-in-Some
returns-in-Some g c =
    sym (content_before_cr (line_in c.args.stream.now) c.in-Some.front.now c.in-Some.last.now
    (sym c.is_ended.ensures ∙ c.if-not-is_ended.false)
    (sym c.bytes-bytes.ensures.bytes ∙ c.in-Some.ensures.cases.0) c.if-last-eq13.true)

pub returns-in_default : goal.returns-in_default
returns-in_default g c =
    c.bytes-bytes.ensures.bytes
    ∙ sym (content_kept (line_in c.args.stream.now) c.in-Some.front.now c.in-Some.last.now
    (sym c.is_ended.ensures ∙ c.if-not-is_ended.false)
    (sym c.bytes-bytes.ensures.bytes ∙ c.in-Some.ensures.cases.0) (ne_eqb _ _ c.if-last-eq13.false))
