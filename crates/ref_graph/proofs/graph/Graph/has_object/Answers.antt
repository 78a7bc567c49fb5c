use Rattle.ref_base.proofs.Common.{arith}
use Rattle.ref_graph.proofs.StoredFields.{is_there-zip}
use Rattle.ref_graph.proofs.graph.Graph.has_object.Goals as goal

pub returns : goal.returns
returns g c =
    grind (arith, is_there-zip c.self.inside.fields.items c.self.inside.numbers c.self.inside.stored.items c.args.no)
