use Rattle.ref_base.proofs.Common.{arith, common_steps}
use Rattle.ref_graph.proofs.search.add_fields.Goals as goal

pub loop-field-preserved : goal.loop-field-preserved
loop-field-preserved g c = grind (arith, common_steps)
