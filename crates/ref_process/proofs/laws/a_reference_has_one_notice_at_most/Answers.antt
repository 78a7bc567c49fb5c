use Rattle.ref_process.proofs.RunNotices.{told_once}
use Rattle.ref_process.proofs.laws.a_reference_has_one_notice_at_most.Goals as goal

pub returns : goal.returns
returns c = λ d rows e run k. told_once rows d e run k
