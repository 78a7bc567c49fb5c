use Rattle.std.proofs.Common.{arith, refl, subst, sym, ◌∙◌}
use Rattle.ref_base.specs.declared.phase.Phase.TheVariants.{Clearing, Marking, Moving}
use Rattle.ref_base.specs.declared.plain_step.PlainStep.TheVariants as plain
use Rattle.ref_base.specs.declared.step.Step.TheVariants as steps
use Rattle.ref_judge.specs.Standing.{IsSettled}
use Rattle.ref_judge.proofs.AnsweredRows.{does_alone}
use Rattle.ref_judge.proofs.ClearingRows.{end_refused}
use Rattle.ref_judge.proofs.MarkTold.{mark_refused}
use Rattle.ref_judge.proofs.TestedRows.{phase_known, refusal_told, select_known, work_known}
use Rattle.ref_judge.proofs.ToldRows.{err_refused}
use Rattle.ref_judge.proofs.judge.Judge.one_plain_answer.Goals as goal

pub returns-in-Scan : goal.returns-in-Scan
returns-in-Scan g c =
    let old = c.args.self.now in
    let said = c.check_work.ensures in
    let err = c.err.ensures.value in
    rw c.in-Scan.is
    (refusal_told old (steps.Plain (plain.Scan c.in-Scan.worker)) _ _ refl
    (λ f is a stands left found.
    sym (work_known old a stands Marking c.in-Scan.worker) ∙
    (err_refused _ _ f said (sym err ∙ is)))
    c.refused.ensures)

pub returns-in-EndMark : goal.returns-in-EndMark
returns-in-EndMark g c =
    let old = c.args.self.now in
    let said = c.check_phase.ensures in
    let err = c.err-in-EndMark.ensures.value in
    rw c.in-EndMark.is
    (refusal_told old (steps.Plain plain.EndMark) _ _ refl
    (λ f is a stands left found.
    mark_refused old a f stands
    (err_refused _ _ f said (sym err ∙ is)) left found)
    c.refused-in-EndMark.ensures)

pub returns-in-ClearNext : goal.returns-in-ClearNext
returns-in-ClearNext g c =
    let old = c.args.self.now in
    let said = c.check_work-in-ClearNext.ensures in
    let err = c.err-in-ClearNext.ensures.value in
    rw c.in-ClearNext.is
    (refusal_told old (steps.Plain (plain.ClearNext c.in-ClearNext.worker)) _ _ refl
    (λ f is a stands left found.
    sym (work_known old a stands Clearing c.in-ClearNext.worker) ∙
    (err_refused _ _ f said (sym err ∙ is)))
    c.refused-in-ClearNext.ensures)

pub returns-in-EndClear : goal.returns-in-EndClear
returns-in-EndClear g c =
    let old = c.args.self.now in
    let said = c.check_phase-in-EndClear.ensures in
    let err = c.err-in-EndClear.ensures.value in
    rw c.in-EndClear.is
    (refusal_told old (steps.Plain plain.EndClear) _ _ refl
    (λ f is a stands left found.
    end_refused old a f stands
    (err_refused _ _ f said (sym err ∙ is)) left found)
    c.refused-in-EndClear.ensures)

pub returns-in-Select : goal.returns-in-Select
returns-in-Select g c =
    let old = c.args.self.now in
    let said = c.check_select.ensures in
    let err = c.err-in-Select.ensures.value in
    rw c.in-Select.is
    (refusal_told old (steps.Plain plain.Select) _ _ refl
    (λ f is a stands left found.
    sym (select_known old a stands) ∙
    (err_refused _ _ f said (sym err ∙ is)))
    c.refused-in-Select.ensures)

pub returns-in-MoveNext : goal.returns-in-MoveNext
returns-in-MoveNext g c =
    let old = c.args.self.now in
    let said = c.check_work-in-MoveNext.ensures in
    let err = c.err-in-MoveNext.ensures.value in
    rw c.in-MoveNext.is
    (refusal_told old (steps.Plain (plain.MoveNext c.in-MoveNext.worker)) _ _ refl
    (λ f is a stands left found.
    sym (work_known old a stands Moving c.in-MoveNext.worker) ∙
    (err_refused _ _ f said (sym err ∙ is)))
    c.refused-in-MoveNext.ensures)

pub returns-in-EndMove : goal.returns-in-EndMove
returns-in-EndMove g c =
    let old = c.args.self.now in
    let said = c.check_phase-in-EndMove.ensures in
    let err = c.err-in-EndMove.ensures.value in
    rw c.in-EndMove.is
    (refusal_told old (steps.Plain plain.EndMove) _ _ refl
    (λ f is a stands left found.
    sym (phase_known old a stands Moving) ∙
    (err_refused _ _ f said (sym err ∙ is)))
    c.refused-in-EndMove.ensures)

pub returns-in_default : goal.returns-in_default
returns-in_default g c =
    does_alone c.args.self.now c.answer.new.self (steps.Plain c.args.step) c.answer.result _
    (subst IsSettled c.self.view_is c.self.invariant.settled)
    (let d = c.in_default in
    grind (
      arith,
      d.not-Scan,
      d.not-EndMark,
      d.not-ClearNext,
      d.not-EndClear,
      d.not-Select,
      d.not-MoveNext,
      d.not-EndMove,
    ))
    c.answer.ensures
    c.answered.ensures
