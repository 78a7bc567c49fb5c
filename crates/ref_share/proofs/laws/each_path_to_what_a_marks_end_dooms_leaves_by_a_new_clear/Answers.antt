use Rattle.ref_share.proofs.LeavingRuns.{leaves_by_a_new_clear}
use Rattle.ref_share.proofs.laws.each_path_to_what_a_marks_end_dooms_leaves_by_a_new_clear.Goals as goal

pub returns : goal.returns
returns c = leaves_by_a_new_clear
