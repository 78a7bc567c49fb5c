use Rattle.ref_base.proofs.Common.{◌+◌, ◌∷◌, ap, sym, ◌∙◌, arith, drop, at_drop_more, added_all}
use Rattle.ref_graph.proofs.search.add_roots.Goals as goal

pub loop-root-preserved : goal.loop-root-preserved
loop-root-preserved g c =
    let add = added_all c.args.graph.now.objects c.loop-root.seen in
    rw c.in_ok-add.ensures
    (ap (λ n. add (n ∷ drop (c.loop-root.root-index + 1) c.args.roots.now)) c.root-item.is
    ∙ sym (at_drop_more add c.args.roots.now c.loop-root.root-index c.root-item.result (omega arith))
    ∙ c.loop-root.invariant)
