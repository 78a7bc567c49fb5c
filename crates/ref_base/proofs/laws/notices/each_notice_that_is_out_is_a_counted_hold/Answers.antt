use Rattle.ref_base.proofs.CountedTraces.{legal_counted}
use Rattle.ref_base.proofs.laws.notices.each_notice_that_is_out_is_a_counted_hold.Goals as goal

pub returns : goal.returns
returns c = legal_counted
