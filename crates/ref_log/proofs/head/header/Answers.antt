use Rattle.ref_log.proofs.Common.{[], refl, inl, sym, ap, ◌∙◌, ◌+◌, ◌-◌, ◌^◌, err_from_is_err_and}
use Rattle.std.proofs.Common.{min}
use Rattle.ref_log.proofs.HeadLines.{header_bad, header_found, header_missing, stopped_fails}
use Rattle.ref_script.specs.Lines.{words_of}
use Rattle.ref_log.specs.LogHeads.{rule_of}
use Rattle.ref_log.proofs.head.header.Goals as goal

pub returns-in_err-next_told-clause-header : goal.returns-in_err-next_told-clause-header
returns-in_err-next_told-clause-header g c given lines has =
    let p = err_from_is_err_and c.from_residual.result c.from_residual.ensures.1 in
    rw (p.1, p.2) (stopped_fails given lines [] _ (inl refl) (c.in_err-next_told.ensures.told lines [] has))

pub returns-then-not-branch-clause-header : goal.returns-then-not-branch-clause-header
returns-then-not-branch-clause-header g c given lines has =
    header_missing given lines _ _ _ (rw c.if-not-branch.true at c.in_ok-next_told.ensures.told lines [] has)
    (c.saturating_add.ensures ∙ ap (λ n. min (n + 1) (2 ^ 64 - 1)) c.number.ensures.number)

pub returns-in-Some-clause-header : goal.returns-in-Some-clause-header
returns-in-Some-clause-header g c given lines has =
    header_found lines _ _ _ (rw c.if-not-branch.false at c.in_ok-next_told.ensures.told lines [] has)
    (ap (λ content. rule_of (words_of content)) (sym c.content.ensures) ∙ sym c.in-Some.ensures)

pub returns-in-None-clause-header : goal.returns-in-None-clause-header
returns-in-None-clause-header g c given lines has =
    header_bad given lines _ _ _ (rw c.if-not-branch.false at c.in_ok-next_told.ensures.told lines [] has)
    (ap (λ content. rule_of (words_of content)) (sym c.content.ensures) ∙ sym c.in-None.ensures)
    c.number-in-None.ensures.number
