use Rattle.ref_clear.proofs.Common.{arith, sym, ap, ◌∙◌, Some, pending_by}
use Rattle.ref_clear.proofs.ChainedNotices.{found_chain, told_of, registered_of, none_behind}
use Rattle.ref_clear.proofs.heap.Heap.pending_of.Goals as goal

pub returns-in_err-list : goal.returns-in_err-list
returns-in_err-list g c = grind (arith, none_behind)

pub returns-in_err-no : goal.returns-in_err-no
returns-in_err-no g c =
    let w = c.worker.inside.0 in
    let at =
    found_chain w c.deref.ensures.value (sym c.in_ok-list.ensures.lookup.0) c.in_ok-list.ensures.lookup.1 in
    rw (← c.self.view_is, ← c.worker.view_is, c.from_residual-in_err-no.ensures)
    (sym
    (told_of c.self.inside.marker c.self.inside.pending.items w c.args.place at.0 at.1 c.objects.ensures
    c.get-2.ensures c.in_err-no.was))

pub of-requires : goal.of-requires
of-requires g c =
    let w = c.worker.inside.0 in
    let at =
    found_chain w c.deref.ensures.value (sym c.in_ok-list.ensures.lookup.0) c.in_ok-list.ensures.lookup.1 in
    rw (c.linked_of.ensures, c.objects-2.ensures)
    (registered_of c.self.inside.marker c.self.inside.pending.items w c.args.place at.0 at.1 c.in_ok-no.no
    c.self.invariant c.objects.ensures c.get-2.ensures c.in_ok-no.was)

pub returns : goal.returns
returns g c =
    let w = c.worker.inside.0 in
    let at =
    found_chain w c.deref.ensures.value (sym c.in_ok-list.ensures.lookup.0) c.in_ok-list.ensures.lookup.1 in
    rw (← c.self.view_is, ← c.worker.view_is)
    (ap (λ p. Some p)
    (c.of.ensures ∙ ap pending_by (rw c.objects-2.ensures at c.linked_of.ensures))
    ∙ sym
    (told_of c.self.inside.marker c.self.inside.pending.items w c.args.place at.0 at.1 c.objects.ensures
    c.get-2.ensures c.in_ok-no.was))
