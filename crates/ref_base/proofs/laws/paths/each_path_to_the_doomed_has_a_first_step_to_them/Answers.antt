use Rattle.ref_base.proofs.LeavingLaws.{has_first_step}
use Rattle.ref_base.proofs.laws.paths.each_path_to_the_doomed_has_a_first_step_to_them.Goals as goal

pub returns : goal.returns
returns c = has_first_step
