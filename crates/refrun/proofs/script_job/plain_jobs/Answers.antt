use Rattle.refrun.proofs.Common.{arith}
use Rattle.refrun.proofs.script_job.plain_jobs.Goals as goal
use Rattle.refrun.specs.JobViews.{answering}
use Rattle.std.proofs.lemmas.List.FromFn.{map-range_with_len_more}

-- one job more
pub loop-number-preserved : goal.loop-number-preserved
loop-number-preserved g c =
    let number = c.loop-number.number in grind (arith, map-range_with_len_more answering 0 number number (omega arith))
