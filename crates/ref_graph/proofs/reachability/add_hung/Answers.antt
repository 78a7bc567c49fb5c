use Rattle.ref_base.proofs.Common.{◌+◌, ◌++◌, ap, sym, ◌∙◌, arith, drop, at_drop_more, added_all, object_at}
use Rattle.ref_base.proofs.Common.{phantom_referents}
use Rattle.ref_base.specs.Searches.{phantom_referent_at}
use Rattle.ref_base.proofs.SearchLaws.{added_all-append}
use Rattle.ref_graph.proofs.reachability.add_hung.Goals as goal

pub loop-no-preserved : goal.loop-no-preserved
loop-no-preserved g c =
    let os = c.args.graph.now.objects in
    let hung = c.loop-no.hung in
    let rest = phantom_referents os (drop (c.loop-no.no-index + 1) c.args.reached.now) in
    rw (c.in_ok-add_if_any.ensures, c.phantom_referent.ensures)
    (sym (added_all-append os (phantom_referent_at (object_at os c.no-item.result)) rest hung)
    ∙ ap (λ n. added_all os hung (phantom_referent_at (object_at os n) ++ rest)) c.no-item.is
    ∙ sym (at_drop_more (λ ns. added_all os hung (phantom_referents os ns)) c.args.reached.now c.loop-no.no-index
    c.no-item.result (omega arith))
    ∙ c.loop-no.invariant)
