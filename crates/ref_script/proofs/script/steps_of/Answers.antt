use Rattle.ref_script.proofs.Common.{◌+◌, err_from_is_err_and, Steps}
use Rattle.ref_script.proofs.LineLemmas.{fails_for}
use Rattle.ref_script.proofs.ScriptLines.{has_read_more, has_read_all, has_read_later_fault}
use Rattle.ref_script.proofs.script.steps_of.Goals as goal

pub returns-in_err-content-clause-fault : goal.returns-in_err-content-clause-fault
returns-in_err-content-clause-fault g c =
    let p = err_from_is_err_and c.from_residual.result c.from_residual.ensures.1 in
    let lines = c.args.lines.now in
    rw (p.1, p.2) (fails_for Steps (lines.number + 1) lines.lines _
    (has_read_later_fault lines c.loop-steps.lines c.loop-steps.steps.items _ c.loop-steps.invariant
    c.in_err-content.ensures.fault))

pub loop-steps-preserved : goal.loop-steps-preserved
loop-steps-preserved g c =
    let added = c.in_ok-add_step.ensures.ok in
    has_read_more c.args.lines.now c.loop-steps.lines c.next_told.new.self c.loop-steps.steps.items _
    c.in-Some.content added.0 c.loop-steps.invariant (rw c.in-Some.is at c.in_ok-content.ensures.found) added.1 added.2

pub returns-clause-spelt : goal.returns-clause-spelt
returns-clause-spelt g c =
    (has_read_all c.args.lines.now c.loop-steps.lines c.next_told.new.self c.loop-steps.steps.items
    c.loop-steps.invariant (rw c.in_default.is at c.in_ok-content.ensures.found)).0
