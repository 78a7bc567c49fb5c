use Rattle.ref_log.proofs.Common.{sym, ap, ◌∙◌, err_from_is_err_and}
use Rattle.ref_log.proofs.HeadLines.{naming_found, naming_stops, no_naming}
use Rattle.ref_log.specs.LogHeads.{is_naming_line}
use Rattle.ref_script.specs.Lines.{words_of}
use Rattle.ref_log.proofs.head.naming.Goals as goal

pub returns-then-not-has_line-clause-naming : goal.returns-then-not-has_line-clause-naming
returns-then-not-has_line-clause-naming g c given lines profile config behind =
    no_naming given lines _ _ profile config _ behind

pub returns-in_err-next_told-clause-naming : goal.returns-in_err-next_told-clause-naming
returns-in_err-next_told-clause-naming g c given lines profile config behind =
    let p = err_from_is_err_and c.from_residual.result c.from_residual.ensures.1 in
    let says = ap (λ content. is_naming_line (words_of content)) (sym c.content.ensures) ∙ sym c.is_naming_line.ensures
    ∙ c.if-not-is_naming_line.false in
    rw (p.1, p.2)
    (naming_stops given lines _ _ profile config (rw c.if-not-has_line.false at behind) says _
    c.in_err-next_told.ensures.told)

pub returns-clause-naming : goal.returns-clause-naming
returns-clause-naming g c given lines profile config behind =
    let says = ap (λ content. is_naming_line (words_of content)) (sym c.content.ensures) ∙ sym c.is_naming_line.ensures
    ∙ c.if-not-is_naming_line.false in
    naming_found given lines _ _ profile config (rw c.if-not-has_line.false at behind) says _ _ _
    c.in_ok-next_told.ensures.told
