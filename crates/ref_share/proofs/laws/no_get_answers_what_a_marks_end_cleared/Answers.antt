use Rattle.ref_share.proofs.ClearedRuns.{never_got}
use Rattle.ref_share.proofs.laws.no_get_answers_what_a_marks_end_cleared.Goals as goal

pub returns : goal.returns
returns c = never_got
