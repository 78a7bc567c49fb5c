use Rattle.ref_base.proofs.MarkedTraces.{legal_marked}
use Rattle.ref_base.proofs.laws.notices.each_notice_of_a_cycle_comes_after_its_mark_ended.Goals as goal

pub returns : goal.returns
returns c = legal_marked
