use Rattle.ref_process.proofs.CycleNotices.{notices_dead}
use Rattle.ref_process.proofs.laws.each_notice_of_a_cycle_is_of_the_dead.Goals as goal

pub returns : goal.returns
returns c = notices_dead
