use Rattle.ref_base.proofs.MarkedTraces.{cleared_shown}
use Rattle.ref_base.proofs.laws.notices.what_a_worker_clears_was_shown_by_its_mark_end.Goals as goal

pub returns : goal.returns
returns c = cleared_shown
