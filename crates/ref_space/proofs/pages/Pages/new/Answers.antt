use Rattle.std.proofs.Common.{◌≡◌, length, refl, sym, ap, subst, ◌∙◌}
use Rattle.ref_space.specs.Pages.{AreFramed}
use Rattle.ref_space.specs.PageViews.{AreMapped}
use Rattle.ref_space.proofs.PageLemmas.{length-fresh}
use Rattle.ref_space.proofs.FrameLemmas.{fresh_framed}
use Rattle.ref_space.proofs.CallLemmas.{are_pages-fresh, written_back}
use Rattle.ref_space.proofs.pages.Pages.new.Goals as goal

pub set_places-requires-clause-framed : goal.set_places-requires-clause-framed
set_places-requires-clause-framed g c =
    subst AreFramed (sym (c.deref.ensures.value ∙ c.in_ok-pages.ensures.0))
    (fresh_framed c.args.first_address c.args.count)

pub set_places-requires-clause-sized : goal.set_places-requires-clause-sized
set_places-requires-clause-sized g c =
    ap length c.deref_mut.ensures.value ∙ sym c.in_ok-places.places.ok.0 ∙ c.in_ok-places.ensures.len
    ∙ sym (length-fresh c.args.first_address 0 c.args.count)
    ∙ sym (ap length (c.deref.ensures.value ∙ c.in_ok-pages.ensures.0))

pub invariant_of-result : goal.invariant_of-result
invariant_of-result g c =
    let sized = c.set_places.ensures.sized ∙ ap length c.deref.ensures.value in
    let all : length c.in_ok-places.places.items ≡ length c.in_ok-pages.pages.items =
    sym c.in_ok-places.places.ok.0 ∙ c.in_ok-places.ensures.len
    ∙ sym (length-fresh c.args.first_address 0 c.args.count) ∙ sym (ap length c.in_ok-pages.ensures.0) in
    let back = written_back c.in_ok-places.places.len c.set_places.new.places c.in_ok-places.places.items
    c.set_places.new.places c.in_ok-places.places.ok.0 (sized ∙ sym all) refl in
    are_pages-fresh c.args.first_address c.args.count c.requires c.in_ok-pages.ensures.0 (ap length back ∙ sized)
    (subst (λ ns. AreMapped (length c.in_ok-pages.pages.items) c.in_ok-pages.pages.items ns) (sym back)
    (subst (λ us. AreMapped (length us) us c.set_places.new.places) c.deref.ensures.value c.set_places.ensures.mapped))
    c.in_ok-chosen.ensures.items c.in_ok-pages.ensures.1 c.in_ok-chosen.ensures.capacity
