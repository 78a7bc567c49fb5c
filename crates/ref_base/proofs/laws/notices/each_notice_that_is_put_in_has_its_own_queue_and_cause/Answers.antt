use Rattle.ref_base.proofs.AddedRows.{added_proven, outs_proven}
use Rattle.ref_base.proofs.laws.notices.each_notice_that_is_put_in_has_its_own_queue_and_cause.Goals as goal

pub returns-clause-one : goal.returns-clause-one
returns-clause-one c = added_proven

pub returns-clause-all : goal.returns-clause-all
returns-clause-all c = outs_proven
