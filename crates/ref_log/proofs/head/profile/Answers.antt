use Rattle.ref_log.proofs.Common.{Some, true, false, sym, ap, ◌∙◌, err_from_is_err_and}
use Rattle.ref_log.proofs.HeadLines.{no_profile, profile_bad, profile_found, profile_stops}
use Rattle.ref_log.specs.LogHeads.{profile_of}
use Rattle.ref_script.specs.Lines.{words_of}
use Rattle.ref_log.proofs.head.profile.Goals as goal

pub returns-then-not-has_line-clause-profile : goal.returns-then-not-has_line-clause-profile
returns-then-not-has_line-clause-profile g c given lines config behind =
    rw c.strict.ensures (no_profile given lines _ _ config false (rw c.if-not-has_line.true at behind))

pub returns-in-None-clause-profile : goal.returns-in-None-clause-profile
returns-in-None-clause-profile g c given lines config behind =
    rw c.strict-in-None.ensures (no_profile given lines _ _ config true (rw c.if-not-has_line.false at behind))

pub returns-in_err-next_told-in-Some-Ok-clause-profile :
    goal.returns-in_err-next_told-in-Some-Ok-clause-profile
returns-in_err-next_told-in-Some-Ok-clause-profile g c given lines config behind =
    let p = err_from_is_err_and c.from_residual.result c.from_residual.ensures.1 in
    rw (p.1, p.2)
    (profile_stops given lines _ _ config (rw c.if-not-has_line.false at behind) _
    (ap (λ content. profile_of (words_of content)) (sym c.content.ensures) ∙ sym c.in-Some-Ok.ensures
    ∙ ap Some c.in-Some-Ok.field-0-is) _
    c.in_err-next_told-in-Some-Ok.ensures.told)

pub returns-in_ok-next_told-in-Some-Ok-clause-profile :
    goal.returns-in_ok-next_told-in-Some-Ok-clause-profile
returns-in_ok-next_told-in-Some-Ok-clause-profile g c given lines config behind =
    profile_found given lines _ _ config (rw c.if-not-has_line.false at behind) _
    (ap (λ content. profile_of (words_of content)) (sym c.content.ensures) ∙ sym c.in-Some-Ok.ensures
    ∙ ap Some c.in-Some-Ok.field-0-is) _ _ _ c.in_ok-next_told-in-Some-Ok.ensures.told

pub returns-in-Some-Err-clause-profile : goal.returns-in-Some-Err-clause-profile
returns-in-Some-Err-clause-profile g c given lines config behind =
    profile_bad given lines _ _ config (rw c.if-not-has_line.false at behind) _
    (ap (λ content. profile_of (words_of content)) (sym c.content.ensures) ∙ sym c.in-Some-Err.ensures
    ∙ ap Some c.in-Some-Err.field-0-is) _
    c.number.ensures.number
