use Rattle.ref_share.proofs.QueueRuns.{keeps_lists}
use Rattle.ref_share.proofs.laws.the_lists_of_a_queue_are_those_of_its_history.Goals as goal

pub returns : goal.returns
returns c = keeps_lists
