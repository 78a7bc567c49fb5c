use Rattle.ref_base.proofs.StrengthLaws.{exclusive}
use Rattle.ref_base.proofs.laws.paths.strengths_are_exclusive.Goals as goal

pub returns : goal.returns
returns c = exclusive
