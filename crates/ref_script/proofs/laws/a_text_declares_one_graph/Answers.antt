use Rattle.ref_script.proofs.OneGraph.{one_graph}
use Rattle.ref_script.proofs.laws.a_text_declares_one_graph.Goals as goal

pub returns : goal.returns
returns c = one_graph
