use Rattle.std.proofs.lemmas.Result.{err_from_is_err_and}
use Rattle.ref_log.proofs.ReadLines.{if_some, none_read}
use Rattle.ref_log.specs.Checking.{Tells}
use Rattle.ref_script.specs.Lines.{lines_of}
use Rattle.ref_log.proofs.check.verdict_on.Goals as goal

pub returns-in_err-head-clause-verdict : goal.returns-in_err-head-clause-verdict
returns-in_err-head-clause-verdict g c =
    let result = c.from_residual-in_err-head.result in
    let p = err_from_is_err_and result c.from_residual-in_err-head.ensures.1 in
    if_some (g.R.TextSource.remaining c.args.reader.now) (λ text. Tells c.args.config (lines_of text) result)
    (λ text is. rw (p.1, p.2)
    (c.in_err-head.ensures.head (lines_of text) (none_read _ _ text c.in_ok-stream.ensures is)))

pub returns-clause-verdict : goal.returns-clause-verdict
returns-clause-verdict g c =
    if_some (g.R.TextSource.remaining c.args.reader.now)
    (λ text. Tells c.args.config (lines_of text) c.verdict_behind.result)
    (λ text is. c.verdict_behind.ensures.verdict c.args.config (lines_of text)
    (c.in_ok-head.ensures.head (lines_of text) (none_read _ _ text c.in_ok-stream.ensures is)))
