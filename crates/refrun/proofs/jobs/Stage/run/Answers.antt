use Rattle.refrun.proofs.Common.{refl}
use Rattle.refrun.proofs.JobLemmas.{gone_row, ran_row}
use Rattle.refrun.proofs.jobs.Stage.run.Goals as goal

pub returns-in-None : goal.returns-in-None
returns-in-None g c =
    gone_row g.J.ScriptJob.number_of g.J.ScriptJob.note_of
    _ _ _ _ c.args.mutator c.args.reference c.args.object c.requires.refused c.requires.held
    refl c.in-None.ensures refl

pub returns-in-Some : goal.returns-in-Some
returns-in-Some g c =
    ran_row g.J.ScriptJob.number_of g.J.ScriptJob.note_of
    _ _ _ _ c.args.mutator c.args.reference c.args.object c.requires.refused c.requires.held
    c.in-Some.job _ _ c.in-Some.ensures refl c.run.ensures c.step.ensures.row
