use Rattle.ref_process.proofs.NoticeRuns.{taken_own}
use Rattle.ref_process.proofs.laws.queues.each_notice_that_is_taken_is_for_its_queue.Goals as goal

pub returns : goal.returns
returns c = taken_own
