use Rattle.std.proofs.Common.{◌∙◌, ℕ, ap, refl, sym, inl, inr}
use Rattle.ref_base.specs.Refusals.{work_refusal}
use Rattle.std.specs.Prelude.{Option}
use Rattle.ref_base.specs.declared.fault.Fault.{Fault}
use Rattle.ref_base.specs.declared.phase.Phase.TheVariants.{Marking}
use Rattle.ref_base.specs.declared.plain_step.PlainStep.TheVariants as plain
use Rattle.ref_base.specs.declared.step.Step.TheVariants as steps
use Rattle.ref_judge.specs.Judged.{Judged}
use Rattle.ref_judge.proofs.ScanRows.{scanned_none, none_told, none_sound, none_none, others_none}
use Rattle.ref_judge.proofs.TestedRows.{refused_told, work_known}
use Rattle.ref_judge.proofs.judge.Judge.scan.Goals.{then-not-self-via-then-not-self}
use Rattle.ref_judge.proofs.judge.Judge.scan.Goals.{then-not-self-via-else-not-self+then-not-is_left}
use Rattle.ref_judge.proofs.judge.Judge.scan.Goals as goal

abbrev now_scanning : ℕ → Judged → Option Fault
now_scanning k j = work_refusal j.ground.heap j.phase Marking k

pub returns-in-Err : goal.returns-in-Err
returns-in-Err g c =
    refused_told c.args.self.now (steps.Plain (plain.Scan c.args.worker)) c.args.reply c.in-Err.fault
    (λ a stands left found. sym (work_known c.args.self.now a stands Marking c.args.worker) ∙ c.in-Err.ensures)
    c.is_refused.result c.is_refused.ensures

pub returns-then-not-self : goal.returns-then-not-self
returns-then-not-self g c =
    let none = c.in_default.ensures in
    rw c.in-Scanned.is (
      scanned_none c.args.self.now c.args.worker c.in-Scanned.no none (elim c.then-not-self.branch [
        | then-not-self-via-then-not-self w ↦
            inl (ap (λ (j : Judged). j.may_be_left) (sym c.self.view_is) ∙ w.if-not-self.true)
        | then-not-self-via-else-not-self+then-not-is_left w ↦ inr (sym w.is_left.ensures ∙ w.if-not-is_left.true)
      ]),
      refl,
    )

pub returns-then-not-self-2 : goal.returns-then-not-self-2
returns-then-not-self-2 g c =
    rw (← c.self.view_is)
    (rw c.in-Nothing.is (
      none_none _ c.args.worker (ap (now_scanning c.args.worker) c.self.view_is ∙ c.in_default.ensures)
          c.if-not-self-2.true,
      refl,
    ))

pub invariant_of-self : goal.invariant_of-self
invariant_of-self g c =
    none_sound _ c.args.worker (ap (now_scanning c.args.worker) c.self.view_is ∙ c.in_default.ensures) c.self.invariant
    c.if-not-self-2.false

pub returns-else-not-self-2 : goal.returns-else-not-self-2
returns-else-not-self-2 g c =
    rw (← c.self.view_is)
    (rw c.in-Nothing.is
    (none_told _ c.args.worker (ap (now_scanning c.args.worker) c.self.view_is ∙ c.in_default.ensures)
    c.if-not-self-2.false))

pub returns-in_default-reply : goal.returns-in_default-reply
returns-in_default-reply g c = (
  others_none c.args.self.now c.args.worker c.in_default.ensures c.args.reply c.in_default-reply.not-Nothing
      c.in_default-reply.not-Scanned,
  refl,
)
