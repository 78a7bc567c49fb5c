use Rattle.std.proofs.Common.{◌≡◌, ◌<◌, ◌≤◌, ◌∙◌, ap, sym, subst, length, arith, []}
use Rattle.std.specs.Prelude.{slice_index_or}
use Rattle.std.proofs.lemmas.List.{get_or_read}
use Rattle.ref_space.specs.Bits.{first_clear}
use Rattle.ref_space.specs.Pages.{Pages, Use, chosen_frames, no_use, left_in}
use Rattle.ref_space.specs.PageViews.{NoneTaken}
use Rattle.ref_space.specs.Worklists.{first_in}
use Rattle.ref_space.proofs.CallLemmas.{few_pages}
use Rattle.ref_space.proofs.LeftLemmas.{first_is_left, nothing_left}
use Rattle.ref_space.proofs.pages.Pages.first_left.Goals as goal

pub returns-then-at-chosen_count-clause-answer : goal.returns-then-at-chosen_count-clause-answer
returns-then-at-chosen_count-clause-answer g c =
    let ps = c.self.inside.pages.items in
    let all = c.if-at-chosen_count.true ∙ c.chosen_count.ensures in
    let none = subst (λ (s : Pages). NoneTaken s.uses (chosen_frames s.uses) c.first_with_left-at.result)
    (sym c.self.view_is) c.first_with_left-at.ensures.none in
    let nothing : left_in ps ≡ [] =
    nothing_left ps (chosen_frames ps) (subst (NoneTaken ps (chosen_frames ps)) all none) in
    sym (ap first_in nothing)
    ∙ ap (λ (s : Pages). first_in (left_in s.uses)) c.self.view_is

pub overflow_mul-result : goal.overflow_mul-result
overflow_mul-result g c =
    let few = few_pages c.self.inside.pages.items c.self.inside.next_address c.self.invariant.rising in
    omega (arith, few, c.self.invariant.addresses, c.chosen_frame-frame.ensures.within)

pub overflow_add-result : goal.overflow_add-result
overflow_add-result g c =
    let few = few_pages c.self.inside.pages.items c.self.inside.next_address c.self.invariant.rising in
    omega (
      arith,
      few,
      c.self.invariant.addresses,
      c.chosen_frame-frame.ensures.within,
      c.lowest_taken.ensures.within,
    )

pub returns-clause-answer : goal.returns-clause-answer
returns-clause-answer g c =
    let ps = c.self.inside.pages.items in
    let none = subst (λ (s : Pages). NoneTaken s.uses (chosen_frames s.uses) c.first_with_left-at.result)
    (sym c.self.view_is) c.first_with_left-at.ensures.none in
    let most = subst (λ (s : Pages). c.first_with_left-at.result ≤ length (chosen_frames s.uses)) (sym c.self.view_is)
    c.first_with_left-at.ensures.within in
    let within : c.first_with_left-at.result < length (chosen_frames ps) =
    omega (arith, most, c.if-at-chosen_count.false, c.chosen_count.ensures) in
    let page = get_or_read ps c.place_of-page.result c.index.result.now c.place_of-page.ensures.within c.index.ensures
    no_use
    ∙ ap (λ q. slice_index_or ps q no_use) c.place_of-page.ensures.place in
    sym (first_is_left ps (chosen_frames ps) c.first_with_left-at.result c.chosen_frame-frame.result
    c.lowest_taken.result none within c.chosen_frame-frame.ensures.frame
    (ap (λ (p : Use). first_clear p.free) (sym page) ∙ c.lowest_taken.ensures.first))
    ∙ ap (λ (s : Pages). first_in (left_in s.uses)) c.self.view_is
