use Rattle.refrun.proofs.Common.{refl}
use Rattle.refrun.proofs.JobLemmas.{job_row, job_refused_row, run_refused_row}
use Rattle.refrun.proofs.jobs.Stage.step.Goals as goal

pub returns-in-Ok : goal.returns-in-Ok
returns-in-Ok g c =
    rw c.in-Job.is (job_row g.J.ScriptJob.number_of g.J.ScriptJob.note_of
    _ _ _ _ c.in-Job.mutator c.in-Job.slot c.in-Ok.object
    c.in-Ok.ensures.refused c.in-Ok.ensures.answer c.in-Job.number _ c.register.ensures.world
    c.register.ensures.answer)

pub returns-in-Err : goal.returns-in-Err
returns-in-Err g c =
    rw c.in-Job.is (job_refused_row g.J.ScriptJob.number_of g.J.ScriptJob.note_of
    _ _ _ _ c.in-Job.mutator c.in-Job.slot c.in-Err.fault
    c.in-Err.ensures.refused refl refl c.in-Job.number)

pub returns-in-Err-ref_in : goal.returns-in-Err-ref_in
returns-in-Err-ref_in g c =
    rw c.in-Run.is (run_refused_row g.J.ScriptJob.number_of g.J.ScriptJob.note_of
    _ _ _ _ c.in-Run.mutator c.in-Run.slot c.in-Err-ref_in.fault
    c.in-Err-ref_in.ensures.refused refl refl)
