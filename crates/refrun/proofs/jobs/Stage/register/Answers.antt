use Rattle.refrun.proofs.Common.{refl}
use Rattle.refrun.proofs.JobLemmas.{registers_job, refuses_job}
use Rattle.refrun.proofs.jobs.Stage.register.Goals as goal

pub returns-in_default-clause-answer : goal.returns-in_default-clause-answer
returns-in_default-clause-answer g c = (rw (c.as_slice.ensures.value, c.from.ensures) at c.in_default.ensures, refl)

pub returns-in-Ok-clause-answer : goal.returns-in-Ok-clause-answer
returns-in-Ok-clause-answer g c =
    let found = rw (c.as_slice.ensures.value, c.from.ensures) at c.in-Some.ensures in
    registers_job g.J.ScriptJob.number_of c.args.object c.args.number _ _ _ _ _ _ found.0 found.1
    c.swap_remove-job.ensures.value c.swap_remove-job.ensures.items c.in-Ok.ensures

pub returns-in-Err-clause-answer : goal.returns-in-Err-clause-answer
returns-in-Err-clause-answer g c =
    let found = rw (c.as_slice.ensures.value, c.from.ensures) at c.in-Some.ensures in
    refuses_job g.J.ScriptJob.number_of c.args.object c.args.number _ _ _ _ _ _ found.0 found.1
    c.swap_remove-job.ensures.value c.swap_remove-job.ensures.items _ _ _ _ c.push_reserved.ensures.items
    c.in-Err.ensures
