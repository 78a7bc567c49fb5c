use Rattle.std.proofs.Common.{◌≡◌, ◌+◌, length, refl, sym, ap, subst, ◌∙◌, arith}
use Rattle.ref_space.specs.Pages.{AreFramed, chosen_frames}
use Rattle.ref_space.specs.PageViews.{AreMapped}
use Rattle.ref_space.proofs.MoveLemmas.{opened_chosen}
use Rattle.ref_space.proofs.CallLemmas.{are_pages-renumbered, few_pages, framed-renumbered, length-renumbered}
use Rattle.ref_space.proofs.CallLemmas.{renumbered_by, written_back}
use Rattle.ref_space.proofs.pages.Pages.renumber.Goals as goal

pub push_emptied-requires-clause-fit : goal.push_emptied-requires-clause-fit
push_emptied-requires-clause-fit g c =
    let ps = c.self.inside.pages.items in
    let open_pages = ap length c.drop_chosen.ensures.pages in
    let chosen = ap length (c.deref.ensures.value ∙ c.self.invariant.listed) in
    omega (
      arith,
      open_pages,
      chosen,
      opened_chosen ps,
      c.drop_chosen.ensures.capacity,
      c.self.invariant.pages_fit,
    )

pub set_places-requires-clause-framed : goal.set_places-requires-clause-framed
set_places-requires-clause-framed g c =
    let are = renumbered_by c.self.inside.pages.items c.self.inside.next_address c.drop_chosen.ensures.pages
    c.deref.ensures.value c.self.invariant.listed c.push_emptied.ensures.pages in
    subst AreFramed (sym (c.deref-2.ensures.value ∙ are))
    (framed-renumbered c.self.inside.next_address c.self.inside.pages.items c.self.invariant.framed)

pub set_places-requires-clause-sized : goal.set_places-requires-clause-sized
set_places-requires-clause-sized g c =
    let are = renumbered_by c.self.inside.pages.items c.self.inside.next_address c.drop_chosen.ensures.pages
    c.deref.ensures.value c.self.invariant.listed c.push_emptied.ensures.pages in
    ap length c.deref_mut.ensures.value ∙ c.self.invariant.sized
    ∙ sym (ap length (c.deref-2.ensures.value ∙ are)
    ∙ length-renumbered c.self.inside.next_address c.self.inside.pages.items)

pub set_places-requires-clause-small : goal.set_places-requires-clause-small
set_places-requires-clause-small g c =
    let are = renumbered_by c.self.inside.pages.items c.self.inside.next_address c.drop_chosen.ensures.pages
    c.deref.ensures.value c.self.invariant.listed c.push_emptied.ensures.pages in
    let size = ap length (c.deref-2.ensures.value ∙ are)
    ∙ length-renumbered c.self.inside.next_address c.self.inside.pages.items in
    let few = few_pages c.self.inside.pages.items c.self.inside.next_address c.self.invariant.rising in
    omega (arith, size, few, c.self.invariant.addresses)

pub invariant_of-self : goal.invariant_of-self
invariant_of-self g c =
    let ps = c.self.inside.pages.items in
    let are = renumbered_by c.self.inside.pages.items c.self.inside.next_address c.drop_chosen.ensures.pages
    c.deref.ensures.value c.self.invariant.listed c.push_emptied.ensures.pages in
    let sized = c.set_places.ensures.sized ∙ ap length c.deref-2.ensures.value in
    let back = written_back c.self.inside.places.len c.set_places.new.places c.self.inside.places.items
    c.set_places.new.places c.self.inside.places.ok.0
    (sized ∙ ap length are ∙ length-renumbered c.self.inside.next_address ps ∙ sym c.self.invariant.sized) refl in
    let count : c.len.result ≡ length (chosen_frames ps) =
    c.len.ensures ∙ c.self.inside.chosen.ok.0 ∙ ap length c.self.invariant.listed in
    are_pages-renumbered c.self.invariant are (ap (λ n. c.self.inside.next_address + n) count) (ap length back ∙ sized)
    (subst (λ ns. AreMapped (length c.push_emptied.new.pages.items) c.push_emptied.new.pages.items ns) (sym back)
    (subst (λ us. AreMapped (length us) us c.set_places.new.places) c.deref-2.ensures.value
    c.set_places.ensures.mapped))
    c.clear.ensures.items (c.push_emptied.ensures.capacity ∙ c.drop_chosen.ensures.capacity) c.clear.ensures.capacity
