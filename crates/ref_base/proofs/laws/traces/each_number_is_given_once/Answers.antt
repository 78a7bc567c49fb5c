use Rattle.ref_base.proofs.OldNames.{legal_numbers}
use Rattle.ref_base.proofs.laws.traces.each_number_is_given_once.Goals as goal

pub returns : goal.returns
returns c = legal_numbers
