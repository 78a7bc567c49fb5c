use Rattle.ref_share.proofs.CleanRuns.{take_gives_what_is_left}
use Rattle.ref_share.proofs.laws.each_take_gives_the_job_that_was_left.Goals as goal

pub returns : goal.returns
returns g c = take_gives_what_is_left
