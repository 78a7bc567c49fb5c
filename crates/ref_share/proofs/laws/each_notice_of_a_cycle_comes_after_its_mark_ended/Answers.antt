use Rattle.ref_share.proofs.MarkedRuns.{given_after_mark}
use Rattle.ref_share.proofs.laws.each_notice_of_a_cycle_comes_after_its_mark_ended.Goals as goal

pub returns : goal.returns
returns c = given_after_mark
