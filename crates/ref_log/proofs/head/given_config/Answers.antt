use Rattle.std.proofs.Common.{Some}
use Rattle.ref_log.proofs.Common.{sym, ap, ◌∙◌, err_from_is_err_and}
use Rattle.ref_log.proofs.HeadLines.{config_twice, given_config_bad, given_config_found, header_stops}
use Rattle.ref_log.specs.LogHeads.{begins_config}
use Rattle.ref_script.specs.Lines.{words_of}
use Rattle.ref_log.proofs.head.given_config.Goals as goal

pub returns-in_default-clause-config : goal.returns-in_default-clause-config
returns-in_default-clause-config g c lines behind =
    given_config_bad lines _ _ c.args.rule behind c.args.given (sym c.in_default.ensures) _ c.number.ensures.number

pub returns-in_err-has_line-clause-config : goal.returns-in_err-has_line-clause-config
returns-in_err-has_line-clause-config g c lines behind =
    let p = err_from_is_err_and c.from_residual.result c.from_residual.ensures.1 in
    rw (p.1, p.2)
    (header_stops lines _ _ c.args.rule behind (Some c.args.given) _
    (c.in_err-has_line.ensures.told lines _ behind.has))

pub returns-then-begins_config-clause-config : goal.returns-then-begins_config-clause-config
returns-then-begins_config-clause-config g c lines behind =
    config_twice lines _ _ c.args.rule behind _ _ c.args.given
    (rw c.if-has_line.true at c.in_ok-has_line.ensures.told lines _ behind.has)
    (ap (λ content. begins_config (words_of content)) (sym c.content.ensures) ∙ sym c.begins_config.ensures
    ∙ c.if-begins_config.true) _ c.number-then-begins_config.ensures.number

pub returns-clause-config : goal.returns-clause-config
returns-clause-config g c lines behind =
    given_config_found lines _ _ c.args.rule behind _ _ c.args.given _ (sym c.in-Some.ensures) _
    (c.in_ok-has_line.ensures.told lines _ behind.has)
