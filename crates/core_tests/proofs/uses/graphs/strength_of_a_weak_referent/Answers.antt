use Rattle.std.proofs.Common.{rules, ◌≡◌, subst}
use Rattle.ref_base.specs.Strengths.{HasStrength}
use Rattle.core_tests.proofs.SmallGraphs.{weak_graph, weak_graph_weak}
use Rattle.core_tests.proofs.uses.graphs.strength_of_a_weak_referent.Goals as goal

pub returns-in-Ok : goal.returns-in-Ok
returns-in-Ok c =
    let e : c.add_object.new.self ≡ weak_graph = search rules in
    weak_graph_weak c.in-Ok.reach (subst (λ g. HasStrength g 2 c.in-Ok.reach) e c.in-Ok.ensures.1)
