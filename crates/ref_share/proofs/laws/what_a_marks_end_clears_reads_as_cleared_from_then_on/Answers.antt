use Rattle.ref_share.proofs.ClearedRuns.{stays_cleared}
use Rattle.ref_share.proofs.laws.what_a_marks_end_clears_reads_as_cleared_from_then_on.Goals as goal

pub returns : goal.returns
returns c = stays_cleared
