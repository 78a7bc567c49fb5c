use Rattle.ref_script.proofs.FaultLaws.{graph_without_fault}
use Rattle.ref_script.proofs.laws.a_graph_text_has_no_fault.Goals as goal

pub returns : goal.returns
returns c = graph_without_fault
