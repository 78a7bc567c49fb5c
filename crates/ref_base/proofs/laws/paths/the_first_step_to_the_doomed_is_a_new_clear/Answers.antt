use Rattle.ref_base.proofs.LeavingLaws.{first_step_clears}
use Rattle.ref_base.proofs.laws.paths.the_first_step_to_the_doomed_is_a_new_clear.Goals as goal

pub returns : goal.returns
returns c = first_step_clears
