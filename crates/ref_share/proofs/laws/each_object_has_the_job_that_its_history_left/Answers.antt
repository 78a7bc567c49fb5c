use Rattle.ref_share.proofs.CleanRuns.{job_is_left}
use Rattle.ref_share.proofs.laws.each_object_has_the_job_that_its_history_left.Goals as goal

pub returns : goal.returns
returns g c = job_is_left
