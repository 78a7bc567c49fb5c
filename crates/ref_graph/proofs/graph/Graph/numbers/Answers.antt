use Rattle.ref_base.proofs.Common.{arith}
use Rattle.std.specs.List.{zip}
use Rattle.ref_graph.proofs.StoreLaws.{rising-objects_in}
use Rattle.ref_graph.proofs.StoredFields.{numbers_from_rising}
use Rattle.ref_graph.specs.GraphViews.{held_in}
use Rattle.ref_graph.proofs.graph.Graph.numbers.Goals as goal

pub returns-clause-all : goal.returns-clause-all
returns-clause-all g c =
    grind (arith, numbers_from_rising c.self.inside.fields.items c.self.inside.numbers c.self.inside.stored.items)

pub returns-clause-sorted : goal.returns-clause-sorted
returns-clause-sorted g c =
    rw (← c.self.view_is)
    (rising-objects_in (held_in c.self.inside.fields.items (zip c.self.inside.numbers c.self.inside.stored.items)))
