use Rattle.ref_script.proofs.FaultLaws.{script_without_fault}
use Rattle.ref_script.proofs.laws.a_script_has_no_fault.Goals as goal

pub returns : goal.returns
returns c = script_without_fault
