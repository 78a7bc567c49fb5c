use Rattle.std.proofs.Common.{◌≡◌, ◌≤◌, ◌<◌, Some, subst, arith, List, length, take, false, true}
use Rattle.ref_space.specs.Pages.{Use, NoneHasRoom, has_open_cell, next_place, use_at}
use Rattle.ref_space.proofs.PageLemmas.{nowhere, placed}
use Rattle.std.proofs.Common.{Bool, not, ◌&&◌, refl, sym}
use Rattle.std.proofs.lemmas.Bool.{false≢true}
use Rattle.ref_space.specs.Bits.{any_set}
use Rattle.ref_space.specs.Pages.{with_cell}
use Rattle.ref_space.specs.PageViews.{NoneTaken}
use Rattle.ref_space.proofs.LeftLemmas.{none_taken-placed}
use Rattle.std.proofs.Common.{◌+◌, ◌*◌, ◌∙◌, ap}
use Rattle.ref_space.specs.Pages.{Pages, next_cell}
use Rattle.ref_space.proofs.PlaceUses.{next_is}
use Rattle.ref_space.proofs.CallLemmas.{are_pages-with, placed_at, placed_cell}
use Rattle.ref_space.proofs.pages.Pages.place.Goals as goal

pub returns-then-page-len : goal.returns-then-page-len
returns-then-page-len g c = grind (arith, nowhere)

pub invariant_of-self-2 : goal.invariant_of-self-2
invariant_of-self-2 g c =
    let page = c.first_with_room-page.result in
    let told = c.first_with_room-page.ensures in
    let ps = c.self.inside.pages.items in
    let left = c.self.inside.first_left in
    let listed = c.self.invariant.listed in
    let within : page ≤ length ps = grind arith in
    let there : has_open_cell (use_at ps page) ≡ true = grind arith in
    are_pages-with c.self.invariant page page c.lowest_free-cell.result false c.index_mut.result.now
    c.take.new.self within
    (subst (λ (os : List Use). NoneHasRoom (take page os)) c.deref.ensures.value told.none) (omega arith)
    c.index_mut.ensures.value c.take.ensures
    (subst (λ fs. NoneTaken (with_cell ps page c.lowest_free-cell.result false) fs left) (sym listed)
    (none_taken-placed ps page c.lowest_free-cell.result left c.self.invariant.framed
    (is_open (use_at ps page).chosen (any_set (use_at ps page).free) there)
    (subst (λ fs. left ≤ length fs) listed c.self.invariant.left_within)
    (subst (λ fs. NoneTaken ps fs left) listed c.self.invariant.emptied)))
  where
    is_open : (chosen some : Bool) → (not chosen && some) ≡ true → chosen ≡ false
    is_open true some is = absurd (false≢true is)
    is_open false some is = refl

pub returns : goal.returns
returns g c =
    let page = c.first_with_room-page.result in
    let ps = c.self.inside.pages.items in
    let told = c.first_with_room-page.ensures in
    let within : page < length ps = grind arith in
    let there : has_open_cell (use_at ps page) ≡ true = grind arith in
    let none = subst (λ (os : List Use). NoneHasRoom (take page os)) c.deref.ensures.value told.none in
    let at : next_place ps ≡ Some (page, c.lowest_free-cell.result) =
    placed ps page c.index-2.result.now c.lowest_free-cell.result none within c.index-2.ensures there
    c.lowest_free-cell.ensures.first in
    let answer = placed_cell c.self.view_is page c.lowest_free-cell.result c.frame-frame.result c.index.result.now at
    within c.index.ensures c.frame-frame.ensures in
    let next = next_is ps c.self.invariant.framed c.self.invariant.whole
    (c.frame-frame.result, c.lowest_free-cell.result)
    (ap (λ (s : Pages). next_cell s.uses) c.self.view_is ∙ sym answer) in
    record {
      answer = answer;
      within = subst (λ (s : Pages). 64 * c.frame-frame.result + c.lowest_free-cell.result < 64 * length s.uses)
          c.self.view_is next.within;
      after = placed_at c.self.view_is page c.lowest_free-cell.result c.index_mut.result.now c.take.new.self at
          c.index_mut.ensures.value c.take.ensures;
    }
