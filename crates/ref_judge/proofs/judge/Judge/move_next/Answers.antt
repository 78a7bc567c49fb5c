use Rattle.std.proofs.Common.{sym, ◌∙◌, inl, inr, ap, refl}
use Rattle.std.specs.Prelude.{Bool, Result, Ok, Err, if◌then◌else◌}
use Rattle.ref_base.specs.Graphs.{is_there}
use Rattle.ref_judge.specs.Judged.{Judged}
use Rattle.ref_judge.specs.declared.stop.Stop.{Stop}
use Rattle.ref_judge.specs.declared.stop.Stop.TheVariants as stop
use Rattle.ref_base.specs.declared.phase.Phase.TheVariants.{Moving}
use Rattle.ref_base.specs.declared.plain_step.PlainStep.TheVariants as plain
use Rattle.ref_base.specs.declared.step.Step.TheVariants as steps
use Rattle.ref_judge.proofs.TestedRows.{refused_told, work_known, tested_told, stays_told, bit_tested}
use Rattle.ref_judge.proofs.MovedRows.{move_accepted, move_answers, move_stays, no_move, none_stays}
use Rattle.ref_judge.proofs.judge.Judge.move_next.Goals as goal
use Rattle.ref_judge.proofs.judge.Judge.move_next.Goals.{in-Moved, in-Nothing, in_default-reply}

abbrev told_of : Bool → Result (Unit {0}) Stop
told_of legal = if legal then Ok tt else Err stop.Illegal

pub returns-in-Err : goal.returns-in-Err
returns-in-Err g c =
    refused_told c.args.self.now (steps.Plain (plain.MoveNext c.args.worker)) c.args.reply c.in-Err.fault
    (λ a stands left found. sym (work_known c.args.self.now a stands Moving c.args.worker) ∙ c.in-Err.ensures)
    c.is_refused.result c.is_refused.ensures

pub returns : goal.returns
returns g c =
    let j = c.args.self.now in
    let k = c.args.worker in
    elim c.match-reply.branch [
      | in-Moved w ↦
          rw w.in-Moved.is
          (tested_told j _ c.match-reply.result _
          (bit_tested c.match-reply.result _
          (w.result-is ∙ w.is_legal.ensures
          ∙ ap told_of (w.has_object.ensures
          ∙ ap (λ (j : Judged). is_there j.ground.heap.objects w.in-Moved.no) c.self.view_is)))
          (λ there. move_stays j k w.in-Moved.no there c.in_default.ensures)
          (λ none. no_move j k w.in-Moved.no none c.in_default.ensures))
      | in-Nothing w ↦ rw w.in-Nothing.is (rw w.result-is (stays_told j _ (none_stays j k c.in_default.ensures)))
      | in_default-reply w ↦
          rw w.result-is (
            λ a stands s t fits h.
                elim (move_answers s t c.args.reply (move_accepted j a s t stands fits k c.args.reply
                c.in_default.ensures h)) [
                  | inl none ↦ w.in_default-reply.not-Nothing none
                  | inr moved ↦ w.in_default-reply.not-Moved moved.0 moved.1
                ],
            refl,
          )
    ]
