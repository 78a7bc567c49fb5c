use Rattle.std.proofs.Common.{subst}
use Rattle.std.specs.Prelude.{MatchResult}
use Rattle.ref_judge.specs.Judged.{Judged}
use Rattle.ref_judge.specs.Standing.{IsSettled, ObjectsTo, TakesRow}
use Rattle.ref_judge.proofs.JudgedRuns.{one_objects, one_tells}
use Rattle.ref_judge.proofs.judge.Judge.row.Goals.{else-is_same, then-is_same}
use Rattle.ref_judge.proofs.judge.Judge.row.Goals as goal

pub returns-after-is_same : goal.returns-after-is_same
returns-after-is_same g c =
    let old = c.args.self.now in
    let new = c.one_answer.new.self in
    let row = c.args.row in
    let answer = c.in-Some.answer in
    let settled = subst IsSettled c.self.view_is c.self.invariant.settled in
    elim c.if-is_same.branch [
      | then-is_same w ↦
          rw w.result-is
          (one_tells old new row.step answer row.reply c.in-Some.ensures (c.is_same.ensures.same w.if-is_same.true))
      | else-is_same w ↦
          rw w.result-is
          (one_objects old new row.step answer row.reply w.by_answer.result c.in-Some.ensures settled
          (c.is_same.ensures.differ w.if-is_same.false) w.by_answer.ensures)
    ]

pub returns-in-None : goal.returns-in-None
returns-in-None g c =
    subst (λ (j : Judged). MatchResult c.chosen.result (λ done. TakesRow j c.args.row c.chosen.new.self)
    (λ objection. ObjectsTo j c.args.row objection c.chosen.new.self)) c.in-None.ensures.1 c.chosen.ensures
