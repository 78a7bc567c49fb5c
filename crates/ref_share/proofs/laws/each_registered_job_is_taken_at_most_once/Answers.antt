use Rattle.ref_share.proofs.CleanRuns.{registered_between}
use Rattle.ref_share.proofs.laws.each_registered_job_is_taken_at_most_once.Goals as goal

pub returns : goal.returns
returns g c = registered_between
