use Rattle.std.proofs.Common.{rules, ◌≡◌, subst}
use Rattle.ref_base.specs.Strengths.{HasStrength}
use Rattle.core_tests.proofs.SmallGraphs.{rootless_graph, rootless_graph_unreachable}
use Rattle.core_tests.proofs.uses.graphs.strength_behind_what_nothing_reaches.Goals as goal

pub returns-in-Ok : goal.returns-in-Ok
returns-in-Ok c =
    let e : c.add_object.new.self ≡ rootless_graph = search rules in
    rootless_graph_unreachable c.in-Ok.reach
    (subst (λ g. HasStrength g 2 c.in-Ok.reach) e c.in-Ok.ensures.1)
