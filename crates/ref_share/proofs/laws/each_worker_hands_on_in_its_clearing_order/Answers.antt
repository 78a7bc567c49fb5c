use Rattle.ref_share.proofs.OrderRuns.{in_clearing_order}
use Rattle.ref_share.proofs.laws.each_worker_hands_on_in_its_clearing_order.Goals as goal

pub returns : goal.returns
returns c = in_clearing_order
