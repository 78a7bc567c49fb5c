use Rattle.ref_base.proofs.StrengthLaws.{some_strength}
use Rattle.ref_base.proofs.laws.paths.each_number_has_a_strength.Goals as goal

pub returns : goal.returns
returns c = some_strength
