use Rattle.std.proofs.Common.{◌≡◌, ◌∙◌, ◌&&◌, true, false, sym, ap, refl}
use Rattle.std.specs.Prelude.{None, Option}
use Rattle.std.proofs.lemmas.Bool.{false≢true}
use Rattle.std.proofs.lemmas.Result.{err_from_is_err_and}
use Rattle.ref_base.specs.Refusals.{is_in, unless}
use Rattle.ref_base.specs.declared.fault.Fault.{Fault}
use Rattle.ref_base.specs.declared.fault.Fault.TheVariants.{WrongPhase}
use Rattle.ref_base.specs.declared.phase.Phase.TheVariants.{Marking}
use Rattle.ref_base.specs.declared.plain_step.PlainStep.TheVariants as plain
use Rattle.ref_base.specs.declared.step.Step.TheVariants as steps
use Rattle.ref_judge.specs.Judged.{Judged}
use Rattle.ref_judge.specs.MarkEnding.{may_end}
use Rattle.ref_judge.proofs.TestedRows.{refused_told}
use Rattle.ref_judge.proofs.EndedJudges.{ends_none}
use Rattle.ref_judge.proofs.MarkTold.{legal_bit, illegal_bit, in_marking, mark_refused}
use Rattle.ref_judge.proofs.MarkTold.{grey_told, grey_sound, grey_none, other_none}
use Rattle.ref_judge.proofs.judge.Judge.end_mark.Goals as goal
use Rattle.ref_judge.proofs.judge.Judge.end_mark.Goals.{then-self, else-self}

abbrev now_marking : Judged → Option Fault
now_marking j = unless (is_in j.phase Marking) WrongPhase None

pub returns-in-Err : goal.returns-in-Err
returns-in-Err g c =
    refused_told c.args.self.now (steps.Plain plain.EndMark) c.args.reply c.in-Err.fault
    (λ a stands left found. mark_refused c.args.self.now a c.in-Err.fault stands c.in-Err.ensures left found)
    c.is_refused.result c.is_refused.ensures

pub returns-in_err-is_legal-in-Doomed : goal.returns-in_err-is_legal-in-Doomed
returns-in_err-is_legal-in-Doomed g c =
    let j = c.args.self.now in
    let p = err_from_is_err_and c.from_residual.result c.from_residual.ensures.1 in
    let no = illegal_bit _ _ c.in_err-is_legal-in-Doomed.ensures in
    let same = sym (ap (λ (k : Judged). k.may_be_none) c.self.view_is) in
    let none : (j.may_be_none && may_end j c.in-Doomed.count) ≡ false =
    elim c.if-self.branch [
      | then-self w ↦
          let may : j.may_be_none ≡ true = same ∙ w.if-self.true in
          let ends : may_end j c.in-Doomed.count ≡ false = sym w.may_doom.ensures ∙ sym w.is_legal-is ∙ no.1 in
          simp (may, ends) refl
      | else-self w ↦
          let may : j.may_be_none ≡ false = same ∙ w.if-self.false in
          simp may refl
    ] in
    rw (p.1, p.2, no.0, c.in-Doomed.is)
    (ends_none j c.in-Doomed.count (in_marking j.phase c.in_default.ensures) none, refl)

pub doom-requires-clause-marks : goal.doom-requires-clause-marks
doom-requires-clause-marks g c = in_marking c.args.self.now.phase c.in_default.ensures

pub doom-requires-clause-ends : goal.doom-requires-clause-ends
doom-requires-clause-ends g c =
    let legal = legal_bit _ _ c.in_ok-is_legal-in-Doomed.ensures in
    elim c.if-self.branch [
      | then-self w ↦ sym w.may_doom.ensures ∙ sym w.is_legal-is ∙ legal
      | else-self w ↦ absurd (false≢true (sym w.if-self.false ∙ sym w.is_legal-is ∙ legal))
    ]

pub returns-in_ok-is_legal-in-Doomed : goal.returns-in_ok-is_legal-in-Doomed
returns-in_ok-is_legal-in-Doomed g c = rw c.in-Doomed.is c.doom.ensures

pub returns-in_err-is_refused-in_default-reply : goal.returns-in_err-is_refused-in_default-reply
returns-in_err-is_refused-in_default-reply g c =
    let j = c.args.self.now in
    let p =
    err_from_is_err_and c.from_residual-in_err-is_refused-in_default-reply.result
    c.from_residual-in_err-is_refused-in_default-reply.ensures.1 in
    let no = c.in_err-is_refused-in_default-reply.ensures in
    rw (p.1, p.2, no.0) (
      other_none j (in_marking j.phase c.in_default.ensures) c.args.reply (λ is. no.1 (sym is))
          c.in_default-reply.not-Doomed,
      refl,
    )

pub returns-in_err-is_legal-in_default-reply : goal.returns-in_err-is_legal-in_default-reply
returns-in_err-is_legal-in_default-reply g c =
    let p =
    err_from_is_err_and c.from_residual-in_err-is_legal-in_default-reply.result
    c.from_residual-in_err-is_legal-in_default-reply.ensures.1 in
    let no = illegal_bit _ _ c.in_err-is_legal-in_default-reply.ensures in
    rw (← c.self.view_is, p.1, p.2, no.0, ← c.in_ok-is_refused-in_default-reply.ensures)
    (grey_none _ (in_marking c.self.inside.phase (ap now_marking c.self.view_is ∙ c.in_default.ensures)) no.1, refl)

pub invariant_of-self : goal.invariant_of-self
invariant_of-self g c =
    grey_sound _ (in_marking c.self.inside.phase (ap now_marking c.self.view_is ∙ c.in_default.ensures))
    c.self.invariant (legal_bit _ _ c.in_ok-is_legal-in_default-reply.ensures)

pub returns-in_ok-is_legal-in_default-reply : goal.returns-in_ok-is_legal-in_default-reply
returns-in_ok-is_legal-in_default-reply g c =
    rw (← c.self.view_is)
    (rw (← c.in_ok-is_refused-in_default-reply.ensures)
    (grey_told _ (in_marking c.self.inside.phase (ap now_marking c.self.view_is ∙ c.in_default.ensures))
    (legal_bit _ _ c.in_ok-is_legal-in_default-reply.ensures)))
