use Rattle.std.proofs.Common.{true, arith}
use Rattle.ref_space.proofs.PageLemmas.{none_shorter}
use Rattle.ref_space.proofs.LeftLemmas.{none_taken-given}
use Rattle.ref_space.proofs.CallLemmas.{are_pages-with, given_at}
use Rattle.ref_space.proofs.pages.Pages.give.Goals as goal

pub invariant_of-self : goal.invariant_of-self
invariant_of-self g c =
    let first = c.min-self-inside.result in
    let least = c.min-self-inside.ensures in
    let within = c.self.invariant.within in
    are_pages-with c.self.invariant first c.place_of-page.result c.args.cell true c.index_mut.result.now c.give.new.self
    (omega (arith, least, within))
    (none_shorter first c.self.inside.first_open c.self.inside.pages.items (omega (arith, least))
    c.self.invariant.full)
    (omega (arith, least)) c.index_mut.ensures.value c.give.ensures
    (none_taken-given c.self.inside.pages.items c.place_of-page.result c.args.cell c.self.inside.chosen.items
    c.self.inside.first_left c.self.invariant.emptied)

pub returns : goal.returns
returns g c =
    given_at c.self.view_is c.place_of-page.result c.args.cell c.args.frame c.index_mut.result.now c.give.new.self
    c.place_of-page.ensures.place c.index_mut.ensures.value c.give.ensures
