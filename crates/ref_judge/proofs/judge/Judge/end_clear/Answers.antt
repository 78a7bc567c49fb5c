use Rattle.std.proofs.Common.{◌∙◌, refl, sym, ap}
use Rattle.std.specs.Prelude.{None, Option, List}
use Rattle.std.specs.List.{list_any}
use Rattle.std.proofs.lemmas.Bool.{or_left, or_right}
use Rattle.ref_base.specs.declared.fault.Fault.{Fault}
use Rattle.ref_judge.specs.Finding.{has_more_left, has_cleared_left}
use Rattle.ref_base.specs.Refusals.{is_in, unless}
use Rattle.ref_base.specs.declared.fault.Fault.TheVariants.{WrongPhase}
use Rattle.ref_base.specs.declared.phase.Phase.TheVariants.{Clearing}
use Rattle.ref_base.specs.declared.plain_step.PlainStep.TheVariants as plain
use Rattle.ref_base.specs.declared.step.Step.TheVariants as steps
use Rattle.ref_judge.specs.Judged.{Judged, Finder}
use Rattle.ref_judge.proofs.TestedRows.{refused_told}
use Rattle.ref_judge.proofs.ClearingRows.{end_refused, left_told, left_sound, none_left, done_told, done_sound}
use Rattle.ref_judge.proofs.ClearingRows.{not_done}
use Rattle.ref_judge.proofs.judge.Judge.end_clear.Goals as goal
use Rattle.ref_judge.proofs.judge.Judge.end_clear.Goals.{then-self-via-then-self}
use Rattle.ref_judge.proofs.judge.Judge.end_clear.Goals.{then-self-via-else-self+then-has_any_cleared}

abbrev now_clearing : Judged → Option Fault
now_clearing j = unless (is_in j.phase Clearing) WrongPhase None

pub returns-in-Err : goal.returns-in-Err
returns-in-Err g c =
    refused_told c.args.self.now (steps.Plain plain.EndClear) c.args.reply c.in-Err.fault
    (λ a stands left found. end_refused c.args.self.now a c.in-Err.fault stands c.in-Err.ensures left found)
    c.is_refused.result c.is_refused.ensures

pub returns-then-self : goal.returns-then-self
returns-then-self g c =
    rw (← c.self.view_is)
    (rw c.in-Done.is (
      not_done _ (ap now_clearing c.self.view_is ∙ c.in_default.ensures)
          (elim c.then-self.branch [
            | then-self-via-then-self w ↦ or_left _ _ w.if-self.true
            | then-self-via-else-self+then-has_any_cleared w ↦
                or_right _ _
                (ap (λ (ws : List Finder). list_any has_cleared_left ws) (sym w.deref.ensures.value)
                ∙ sym w.has_any_cleared.ensures ∙ w.if-has_any_cleared.true)
          ]),
      refl,
    ))

pub invariant_of-self : goal.invariant_of-self
invariant_of-self g c =
    done_sound _ (ap now_clearing c.self.view_is ∙ c.in_default.ensures) c.self.invariant c.if-self.false
    (ap (λ (ws : List Finder). list_any has_cleared_left ws) (sym c.deref.ensures.value)
    ∙ sym c.has_any_cleared.ensures ∙ c.if-has_any_cleared.false)

pub returns-then-not-may_any_have_more : goal.returns-then-not-may_any_have_more
returns-then-not-may_any_have_more g c =
    rw (← c.self.view_is)
    (rw (← c.in_ok-is_refused-in_default-reply.ensures) (
      none_left _ (ap now_clearing c.self.view_is ∙ c.in_default.ensures)
          (ap (λ (ws : List Finder). list_any has_more_left ws) (sym c.deref-in_default-reply.ensures.value)
          ∙ sym c.may_any_have_more.ensures ∙ c.if-not-may_any_have_more.true),
      refl,
    ))

pub invariant_of-self-in_default-reply : goal.invariant_of-self-in_default-reply
invariant_of-self-in_default-reply g c =
    left_sound _ (ap now_clearing c.self.view_is ∙ c.in_default.ensures) c.self.invariant
    (ap (λ (ws : List Finder). list_any has_more_left ws) (sym c.deref-in_default-reply.ensures.value)
    ∙ sym c.may_any_have_more.ensures ∙ c.if-not-may_any_have_more.false)

pub returns-else-has_any_cleared : goal.returns-else-has_any_cleared
returns-else-has_any_cleared g c =
    rw (← c.self.view_is)
    (rw c.in-Done.is
    (done_told _ (ap now_clearing c.self.view_is ∙ c.in_default.ensures) c.if-self.false
    (ap (λ (ws : List Finder). list_any has_cleared_left ws) (sym c.deref.ensures.value)
    ∙ sym c.has_any_cleared.ensures ∙ c.if-has_any_cleared.false)))

pub returns-else-not-may_any_have_more : goal.returns-else-not-may_any_have_more
returns-else-not-may_any_have_more g c =
    rw (← c.self.view_is)
    (rw (← c.in_ok-is_refused-in_default-reply.ensures)
    (left_told _ (ap now_clearing c.self.view_is ∙ c.in_default.ensures)))
