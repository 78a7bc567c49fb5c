use Rattle.std.proofs.Common.{◌∙◌, refl, sym, inl, inr}
use Rattle.ref_base.specs.declared.phase.Phase.TheVariants.{Clearing}
use Rattle.ref_base.specs.declared.plain_step.PlainStep.TheVariants as plain
use Rattle.ref_base.specs.declared.step.Step.TheVariants as steps
use Rattle.ref_judge.proofs.LookedRows.{no_answer}
use Rattle.ref_judge.proofs.TestedRows.{refused_told, work_known}
use Rattle.ref_judge.proofs.judge.Judge.clear_next.Goals as goal

pub returns-in-Err : goal.returns-in-Err
returns-in-Err g c =
    refused_told c.args.self.now (steps.Plain (plain.ClearNext c.args.worker)) c.args.reply c.in-Err.fault
    (λ a stands left found. sym (work_known c.args.self.now a stands Clearing c.args.worker) ∙ c.in-Err.ensures)
    c.is_refused.result c.is_refused.ensures

pub returns-in_default-reply : goal.returns-in_default-reply
returns-in_default-reply g c = (
  no_answer c.args.self.now c.args.worker c.in_default.ensures c.args.reply c.in_default-reply.not-Nothing
      (λ n look. elim look [
        | inl cleared ↦ c.in_default-reply.not-Cleared n cleared
        | inr others ↦ elim others [
          | inl kept ↦ c.in_default-reply.not-Kept n kept
          | inr skipped ↦ c.in_default-reply.not-Skipped n skipped
        ]
      ]),
  refl,
)
