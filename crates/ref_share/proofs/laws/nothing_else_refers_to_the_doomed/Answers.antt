use Rattle.ref_share.proofs.HeapReplays.{doomed_unreached}
use Rattle.ref_share.proofs.laws.nothing_else_refers_to_the_doomed.Goals as goal

pub returns : goal.returns
returns c = doomed_unreached
