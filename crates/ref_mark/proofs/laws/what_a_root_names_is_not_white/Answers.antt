use Rattle.ref_mark.proofs.SafeMarks.{root_facts}
use Rattle.ref_mark.proofs.laws.what_a_root_names_is_not_white.Goals as goal

pub returns : goal.returns
returns c = root_facts
