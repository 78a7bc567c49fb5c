use Rattle.ref_share.proofs.CleanRuns.{look_tells_what_is_left}
use Rattle.ref_share.proofs.laws.each_look_tells_whether_a_job_was_left.Goals as goal

pub returns : goal.returns
returns g c = look_tells_what_is_left
