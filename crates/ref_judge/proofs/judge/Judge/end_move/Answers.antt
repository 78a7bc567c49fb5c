use Rattle.std.proofs.Common.{sym, ◌∙◌, inl, inr, ap}
use Rattle.std.specs.Prelude.{None}
use Rattle.ref_base.specs.Refusals.{is_in, unless}
use Rattle.ref_base.specs.declared.fault.Fault.TheVariants.{WrongPhase}
use Rattle.ref_base.specs.declared.phase.Phase.TheVariants.{Moving}
use Rattle.ref_base.specs.declared.plain_step.PlainStep.TheVariants as plain
use Rattle.ref_base.specs.declared.step.Step.TheVariants as steps
use Rattle.ref_judge.specs.Judged.{Judged}
use Rattle.ref_judge.proofs.TestedRows.{refused_told, phase_known, tested_told}
use Rattle.ref_judge.proofs.MovedRows.{end_accepted, end_sound, end_told, moves_left_stays}
use Rattle.ref_judge.proofs.judge.Judge.end_move.Goals as goal

pub returns-in-Err : goal.returns-in-Err
returns-in-Err g c =
    refused_told c.args.self.now (steps.Plain plain.EndMove) c.args.reply c.in-Err.fault
    (λ a stands left found. sym (phase_known c.args.self.now a stands Moving) ∙ c.in-Err.ensures)
    c.is_refused.result c.is_refused.ensures

pub invariant_of-self : goal.invariant_of-self
invariant_of-self g c =
    end_sound _ c.self.invariant
    (ap (λ (j : Judged). unless (is_in j.phase Moving) WrongPhase None) c.self.view_is ∙ c.in_default.ensures)

pub returns-in-Done : goal.returns-in-Done
returns-in-Done g c =
    rw (← c.self.view_is)
    (rw c.in-Done.is (end_told _ c.self.invariant
    (ap (λ (j : Judged). unless (is_in j.phase Moving) WrongPhase None) c.self.view_is ∙ c.in_default.ensures)))

pub returns-in_default-reply : goal.returns-in_default-reply
returns-in_default-reply g c =
    let j = c.args.self.now in
    tested_told j _ c.is_refused-in_default-reply.result _ c.is_refused-in_default-reply.ensures
    (λ is. rw (← is) (moves_left_stays j c.in_default.ensures))
    (λ not a stands s t fits h. elim (end_accepted j a s t stands fits c.args.reply c.in_default.ensures h) [
      | inl done ↦ c.in_default-reply.not-Done done.0
      | inr left ↦ not (sym left.0)
    ])
