use Rattle.refrun.proofs.Common.{refl}
use Rattle.refrun.proofs.TraceLemmas.{tells_trace}
use Rattle.refrun.proofs.trace.trace_of.Goals as goal

pub returns-clause-told : goal.returns-clause-told
returns-clause-told g c =
    tells_trace g.J.ScriptJob.number_of g.J.ScriptJob.note_of c.args.script.config
    c.args.jobs.items _ _ _ _ _ _ _ c.in-Ok.ensures.stands
    (rw c.new-2.ensures refl) c.as_slice.ensures.value c.in_ok-told.ensures
