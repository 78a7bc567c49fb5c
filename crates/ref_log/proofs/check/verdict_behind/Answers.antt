use Rattle.std.proofs.Common.{refl, sym, ◌∙◌, subst}
use Rattle.std.proofs.Math.Bool.{or-false}
use Rattle.std.proofs.lemmas.Result.{err_from_is_err_and}
use Rattle.ref_judge.specs.Judged.{Judged}
use Rattle.ref_judge.specs.Standing.{IsOfSomeState, IsSettled}
use Rattle.ref_log.proofs.JudgedLines.{none_unread, way_breaks, way_ends, way_first}
use Rattle.ref_log.proofs.JudgedLines.{same_unread, told_unread, way_more, way_stops, way_told}
use Rattle.ref_log.proofs.check.verdict_behind.Goals as goal

pub loop-has_row-init : goal.loop-has_row-init
loop-has_row-init g c = (
  (λ given lines behind.
      way_first given lines _ _ _ _ _ _ c.in-Ok.judge _ behind c.in-Ok.ensures.stands c.first_names-names.ensures),
  refl,
)

pub returns-in_err-row-clause-verdict : goal.returns-in_err-row-clause-verdict
returns-in_err-row-clause-verdict g c =
    let p = err_from_is_err_and c.from_residual.result c.from_residual.ensures.1 in
    λ given lines behind.
    let way = c.loop-has_row.invariant.0 given lines behind in
    rw (p.1, p.2) (way_stops _ _ _ _ _ _ _ _ _ _ way c.loop-has_row-test.true _ c.in_err-row.ensures)

pub returns-in_err-row-clause-failed : goal.returns-in_err-row-clause-failed
returns-in_err-row-clause-failed g c =
    let p = err_from_is_err_and c.from_residual.result c.from_residual.ensures.1 in
    let at = c.loop-has_row in
    let unread = none_unread _ _ at.stream at.rows _ c.in_err-row.ensures in
    rw (p.1, p.2) (rw unread (at.invariant.1 ∙ sym (or-false _)))

pub returns-in_err-has_row-clause-verdict : goal.returns-in_err-has_row-clause-verdict
returns-in_err-has_row-clause-verdict g c =
    let p = err_from_is_err_and c.from_residual-in_err-has_row.result c.from_residual-in_err-has_row.ensures.1 in
    let sound = subst (λ (j : Judged). IsOfSomeState j) c.judge.view_is c.judge.invariant in
    let settled = subst (λ (j : Judged). IsSettled j) c.judge-in-loop-has_row.view_is
    c.judge-in-loop-has_row.invariant.settled in
    λ given lines behind.
    let way = c.loop-has_row.invariant.0 given lines behind in
    rw (p.1, p.2)
    (way_breaks _ _ _ _ _ _ _ _ _ _ way c.loop-has_row-test.true c.in_ok-row.row _ c.in_ok-row.ensures sound
    c.taken.new.judge settled c.in-Ok-taken.ensures _ c.in_err-has_row.ensures.told)

pub returns-in_err-has_row-clause-failed : goal.returns-in_err-has_row-clause-failed
returns-in_err-has_row-clause-failed g c =
    let p = err_from_is_err_and c.from_residual-in_err-has_row.result c.from_residual-in_err-has_row.ensures.1 in
    rw (p.1, p.2, ← same_unread _, ← c.loop-has_row.invariant.1) c.in_err-has_row.ensures.failed

pub returns-in-Err-clause-verdict : goal.returns-in-Err-clause-verdict
returns-in-Err-clause-verdict g c =
    let sound = subst (λ (j : Judged). IsOfSomeState j) c.judge.view_is c.judge.invariant in
    λ given lines behind.
    let way = c.loop-has_row.invariant.0 given lines behind in
    way_told _ _ _ _ _ _ _ _ _ _ way c.loop-has_row-test.true c.in_ok-row.row _ c.in_ok-row.ensures sound
    c.taken.new.judge _ _ c.told_of.result c.in-Err.ensures.0 c.in-Err.ensures.1 c.told_of.ensures

pub returns-in-Err-clause-failed : goal.returns-in-Err-clause-failed
returns-in-Err-clause-failed g c =
    rw (told_unread _ _ _ _ c.told_of.result c.told_of.ensures) (c.loop-has_row.invariant.1 ∙ sym (or-false _))

pub loop-has_row-preserved : goal.loop-has_row-preserved
loop-has_row-preserved g c =
    let sound = subst (λ (j : Judged). IsOfSomeState j) c.judge.view_is c.judge.invariant in
    let settled = subst (λ (j : Judged). IsSettled j) c.judge-in-loop-has_row.view_is
    c.judge-in-loop-has_row.invariant.settled in (
      (λ given lines behind.
          let way = c.loop-has_row.invariant.0 given lines behind in
          way_more _ _ _ _ _ _ _ _ _ _ way c.loop-has_row-test.true c.in_ok-row.row _ c.in_ok-row.ensures sound
          c.taken.new.judge settled c.in-Ok-taken.ensures (g.R.TextSource.remaining c.next_told.new.reader)
          c.next_told.new.stream c.in_ok-has_row.has_row c.in_ok-has_row.ensures.told),
      (rw or-false at c.in_ok-has_row.ensures.failed) ∙ c.loop-has_row.invariant.1,
    )

pub returns-clause-verdict : goal.returns-clause-verdict
returns-clause-verdict g c =
    λ given lines behind.
    let way = c.loop-has_row.invariant.0 given lines behind in
    way_ends _ _ _ _ _ _ _ _ _ _ way c.loop-has_row-test.false
