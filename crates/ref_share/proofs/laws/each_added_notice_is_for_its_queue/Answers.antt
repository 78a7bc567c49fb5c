use Rattle.ref_share.proofs.QueueRuns.{own_at_the_end}
use Rattle.ref_share.proofs.laws.each_added_notice_is_for_its_queue.Goals as goal

pub returns : goal.returns
returns c = own_at_the_end
