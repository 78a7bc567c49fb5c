use Rattle.ref_base.proofs.ProvenTraces.{legal_proven}
use Rattle.ref_base.proofs.laws.notices.each_notice_has_its_own_queue_and_cause.Goals as goal

pub returns : goal.returns
returns c = legal_proven
