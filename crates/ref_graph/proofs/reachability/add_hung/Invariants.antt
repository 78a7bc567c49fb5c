use Rattle.ref_base.proofs.Common.{◌≡◌, drop, added_all, phantom_referents}
use Rattle.ref_graph.proofs.reachability.add_hung.Given as goal

-- adding what hangs on the objects that are left ends as adding what hangs on any of them does
abbrev pub invariant-loop-no : goal.invariant-loop-no
invariant-loop-no g l =
    added_all l.graph.objects l.hung (phantom_referents l.graph.objects (drop l.no-index l.reached))
    ≡ added_all l.graph.objects l.initial.hung (phantom_referents l.graph.objects l.reached)
