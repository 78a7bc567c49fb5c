use Rattle.ref_base.proofs.Common.{◌≡◌, drop, added_all}
use Rattle.ref_graph.proofs.search.add_roots.Given as goal

-- adding what is left of the roots ends as adding all of them does
abbrev pub invariant-loop-root : goal.invariant-loop-root
invariant-loop-root g l =
    added_all l.graph.objects l.seen (drop l.root-index l.roots)
    ≡ added_all l.graph.objects l.initial.seen l.roots
