use Rattle.ref_base.proofs.Common.{arith}
use Rattle.ref_base.proofs.HasLaws.{has-list_any}
use Rattle.ref_graph.proofs.search.add.Goals as goal

pub returns-in_ok-insert : goal.returns-in_ok-insert
returns-in_ok-insert g c = grind (arith, has-list_any)
