use Rattle.refrun.proofs.Common.{arith, script_fault}
use Rattle.refrun.specs.Traces.{PrintsTrace}
use Rattle.refrun.proofs.TraceLemmas.{cut_off, gone_out}
use Rattle.refrun.proofs.trace.run_script_with.Goals as goal

pub returns-in-Ok-clause-answer : goal.returns-in-Ok-clause-answer
returns-in-Ok-clause-answer g c =
    gone_out (Unit {0}) _ (PrintsTrace g.J.ScriptJob.number_of g.J.ScriptJob.note_of c.args.jobs.items)
    script_fault _ _ _ _ _ _ _
    c.in_ok-text.ensures.text c.as_slice.ensures.value c.in_ok-trace.ensures.prints c.as_slice-2.ensures
    (c.in-Ok.ensures).ok

pub returns-in-Ok-clause-refused : goal.returns-in-Ok-clause-refused
returns-in-Ok-clause-refused g c = grind arith

pub returns-clause-answer : goal.returns-clause-answer
returns-clause-answer g c =
    cut_off (Unit {0}) _ (PrintsTrace g.J.ScriptJob.number_of g.J.ScriptJob.note_of c.args.jobs.items)
    script_fault _ _ _ _ _ _
    c.in_ok-text.ensures.text c.as_slice.ensures.value c.in_ok-trace.ensures.prints c.as_slice-2.ensures
    (c.in-Err.ensures).err

pub returns-clause-refused : goal.returns-clause-refused
returns-clause-refused g c = grind arith
