use Rattle.ref_share.proofs.ProvenRuns.{given_proven}
use Rattle.ref_share.proofs.laws.each_notice_that_is_given_has_its_own_queue_and_cause.Goals as goal

pub returns : goal.returns
returns c = given_proven
