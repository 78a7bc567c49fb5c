use Rattle.ref_base.proofs.ClearedOnwards.{never_got}
use Rattle.ref_base.proofs.laws.cycles.no_get_answers_what_a_marks_end_cleared.Goals as goal

pub returns : goal.returns
returns c = never_got
