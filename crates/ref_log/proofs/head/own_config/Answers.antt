use Rattle.std.proofs.Common.{min}
use Rattle.ref_log.proofs.Common.{sym, ap, ◌∙◌, ◌+◌, ◌-◌, ◌^◌, err_from_is_err_and}
use Rattle.ref_log.proofs.HeadLines.{config_bad, config_missing, config_stops, header_stops, own_config_found}
use Rattle.ref_log.specs.Checking.{in_limits}
use Rattle.ref_script.specs.Lines.{words_of}
use Rattle.ref_script.specs.Scripts.{config_of}
use Rattle.std.specs.Prelude.{None}
use Rattle.ref_log.proofs.head.own_config.Goals as goal

pub returns-in_err-next_told-clause-config : goal.returns-in_err-next_told-clause-config
returns-in_err-next_told-clause-config g c lines behind =
    let p = err_from_is_err_and c.from_residual.result c.from_residual.ensures.1 in
    rw (p.1, p.2)
    (header_stops lines _ _ c.args.rule behind None _ (c.in_err-next_told.ensures.told lines _ behind.has))

pub returns-then-not-branch-clause-config : goal.returns-then-not-branch-clause-config
returns-then-not-branch-clause-config g c lines behind =
    config_missing lines _ _ c.args.rule behind _ _
    (rw c.if-not-branch.true at c.in_ok-next_told.ensures.told lines _ behind.has) _
    (c.saturating_add.ensures ∙ ap (λ n. min (n + 1) (2 ^ 64 - 1)) c.number.ensures.number)

pub returns-in_err-next_told-in-Some-clause-config :
    goal.returns-in_err-next_told-in-Some-clause-config
returns-in_err-next_told-in-Some-clause-config g c lines behind =
    let found = rw c.if-not-branch.false at c.in_ok-next_told.ensures.told lines _ behind.has in
    let p = err_from_is_err_and c.from_residual-in_err-next_told-in-Some.result
    c.from_residual-in_err-next_told-in-Some.ensures.1 in
    rw (p.1, p.2)
    (config_stops lines _ _ c.args.rule behind _ _ found _
    (sym (c.in-Some.ensures ∙ ap in_limits (c.config_of.ensures
    ∙ ap (λ content. config_of c.args.rule (words_of content)) c.content.ensures))) _
    c.in_err-next_told-in-Some.ensures.told)

pub returns-in_ok-next_told-in-Some-clause-config :
    goal.returns-in_ok-next_told-in-Some-clause-config
returns-in_ok-next_told-in-Some-clause-config g c lines behind =
    let found = rw c.if-not-branch.false at c.in_ok-next_told.ensures.told lines _ behind.has in
    own_config_found lines _ _ c.args.rule behind _ _ found _
    (sym (c.in-Some.ensures ∙ ap in_limits (c.config_of.ensures
    ∙ ap (λ content. config_of c.args.rule (words_of content)) c.content.ensures))) _ _ _
    c.in_ok-next_told-in-Some.ensures.told

pub returns-in-None-clause-config : goal.returns-in-None-clause-config
returns-in-None-clause-config g c lines behind =
    config_bad lines _ _ c.args.rule behind _ _
    (rw c.if-not-branch.false at c.in_ok-next_told.ensures.told lines _ behind.has)
    (sym (c.in-None.ensures ∙ ap in_limits (c.config_of.ensures
    ∙ ap (λ content. config_of c.args.rule (words_of content)) c.content.ensures))) _ c.number-in-None.ensures.number
