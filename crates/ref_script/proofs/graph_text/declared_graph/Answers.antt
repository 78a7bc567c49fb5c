use Rattle.ref_script.proofs.Common.{arith}
use Rattle.ref_script.proofs.LineLemmas.{fails_for}
use Rattle.ref_script.proofs.graph_text.declared_graph.Goals as goal

pub returns-in_err-line-clause-fault : goal.returns-in_err-line-clause-fault
returns-in_err-line-clause-fault g c = grind (arith, fails_for)
