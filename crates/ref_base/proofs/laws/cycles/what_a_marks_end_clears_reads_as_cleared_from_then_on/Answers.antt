use Rattle.ref_base.proofs.ClearedOnwards.{stays_cleared}
use Rattle.ref_base.proofs.laws.cycles.what_a_marks_end_clears_reads_as_cleared_from_then_on.Goals as goal

pub returns : goal.returns
returns c = stays_cleared
