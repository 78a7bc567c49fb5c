use Rattle.refrun.proofs.Common.{◌≡◌, take, jobs, TellsRun}
use Rattle.std.specs.Fmt.{IsPlainFormatter, formatter_writer}
use Rattle.refrun.proofs.trace.told_run.Given as goal

abbrev pub invariant-loop-step : goal.invariant-loop-step
invariant-loop-step g l =
    let old = l.fn.stage in let new = l.stage in
    TellsRun g.J.ScriptJob.number_of g.J.ScriptJob.note_of l.fn.rule old.world (jobs old.table old.left.items)
    (take l.step-index l.fn.steps) (formatter_writer l.trace) new.world (jobs new.table new.left.items)
    × (l.number ≡ l.step-index) × IsPlainFormatter l.trace
