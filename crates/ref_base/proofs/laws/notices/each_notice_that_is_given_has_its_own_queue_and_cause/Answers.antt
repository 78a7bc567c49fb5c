use Rattle.ref_base.proofs.GivenNotices.{given_proven}
use Rattle.ref_base.proofs.laws.notices.each_notice_that_is_given_has_its_own_queue_and_cause.Goals as goal

pub returns : goal.returns
returns c = given_proven
