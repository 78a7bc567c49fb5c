use Rattle.std.proofs.Common.{arith, ◌+◌, ◌<◌, ◌≤◌, List, length, take, drop, sym, subst}
use Rattle.ref_base.specs.declared.row.Row.{Row}
use Rattle.ref_judge.specs.Judged.{Judged}
use Rattle.ref_judge.specs.ProfiledRows.{IsLegalAs}
use Rattle.ref_judge.specs.Standing.{IsSettled}
use Rattle.ref_judge.proofs.JudgedRuns.{HasTaken, taken_first, taken_more, taken_legal, taken_none, row_at, row_between}
use Rattle.ref_judge.proofs.JudgedRuns.{objected, taken_lawful}
use Rattle.ref_judge.proofs.JudgedRuns.{length_front, all_taken}
use Rattle.ref_judge.proofs.SomeFits.{between}
use Rattle.ref_judge.proofs.traces.verdict.Goals as goal

pub loop-place-init : goal.loop-place-init
loop-place-init g c = taken_first c.args.profile c.args.config _ c.in_ok-judge.ensures.stands

pub returns-in-Err-Illegal : goal.returns-in-Err-Illegal
returns-in-Err-Illegal g c =
    let rows = c.args.rows.now in
    let place = c.loop-place.place in
    let row = c.index-rows-place.result in
    let taken = c.loop-place.invariant in
    let within : place < length rows = grind (arith, c.loop-place-test.true, c.loop-place.auto.place-end) in
    let none = (objected c.loop-place.judge c.row.new.self row c.in-Err-Illegal.field-0 _ c.in-Err-Illegal.field-0-is
    c.in-Err-Illegal.ensures).0 taken.state taken.stands in (
      take place rows,
      row,
      drop (place + 1) rows,
      row_between rows place row within (sym c.index-rows-place.is),
      length_front rows place within,
      taken_legal c.args.profile c.args.config (take place rows) c.loop-place.judge taken
          (between c.loop-place.judge taken.state taken.stands taken.settled),
      taken_none c.args.profile c.args.config (take place rows) c.loop-place.judge taken row none,
    )

pub loop-place-preserved : goal.loop-place-preserved
loop-place-preserved g c =
    let told = c.in-Ok.ensures in
    let taken = c.loop-place.invariant in
    let rows = c.args.rows.now in
    let place = c.loop-place.place in
    let front = take place rows in
    let row = c.index-rows-place.result in
    let within : place < length rows = grind (arith, c.loop-place-test.true, c.loop-place.auto.place-end) in
    subst (λ (rows : List Row). HasTaken c.args.profile c.args.config rows c.row.new.self)
    (sym (row_at rows place row within (sym c.index-rows-place.is)))
    (taken_more c.args.profile c.args.config front c.loop-place.judge taken row c.row.new.self
    (subst (λ (j : Judged). IsSettled j) c.judge.view_is c.judge.invariant.settled) told.0 told.1
    (told.2 taken.state taken.stands (taken_lawful c.args.profile c.args.config front c.loop-place.judge taken)))

pub returns : goal.returns
returns g c =
    let rows = c.args.rows.now in
    let place = c.loop-place.place in
    let taken = c.loop-place.invariant in
    let past : length rows ≤ place = grind (arith, c.loop-place-test.false, c.loop-place.auto.place-end) in
    subst (λ (all : List Row). IsLegalAs c.args.profile c.args.config all) (all_taken rows place past)
    (taken_legal c.args.profile c.args.config (take place rows) c.loop-place.judge taken
    (between c.loop-place.judge taken.state taken.stands taken.settled))
