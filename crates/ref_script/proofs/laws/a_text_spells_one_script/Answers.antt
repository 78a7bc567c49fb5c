use Rattle.ref_script.proofs.OneReading.{one_script}
use Rattle.ref_script.proofs.laws.a_text_spells_one_script.Goals as goal

pub returns : goal.returns
returns c = one_script
