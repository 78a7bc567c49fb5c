use Rattle.std.proofs.Common.{◌<◌, ◌∙◌, ap, sym, subst, length}
use Rattle.std.proofs.lemmas.List.{get_or_read}
use Rattle.ref_space.specs.Pages.{Pages, chosen_frames}
use Rattle.std.specs.Prelude.{slice_index_or}
use Rattle.ref_space.proofs.LeftLemmas.{IsChosenFrame, chosen_frame}
use Rattle.ref_space.proofs.pages.Pages.chosen_frame.Goals as goal
use Rattle.ref_space.proofs.pages.Pages.chosen_frame.Given.{Over}

is_chosen : (g : Over) (c : goal.After-row_known-1 g) → IsChosenFrame c.args.self.now.uses c.index.result.now
is_chosen g c =
    let ps = c.self.inside.pages.items in
    let within = subst (λ (s : Pages). c.args.at < length (chosen_frames s.uses)) (sym c.self.view_is) c.requires in
    let read = get_or_read c.self.inside.chosen.items c.args.at c.index.result.now
    (subst (λ fs. c.args.at < length fs) (sym c.self.invariant.listed) within) c.index.ensures 0
    ∙ ap (λ fs. slice_index_or fs c.args.at 0) c.self.invariant.listed in
    subst (λ (s : Pages). IsChosenFrame s.uses c.index.result.now) c.self.view_is
    (subst (IsChosenFrame ps) (sym read) (chosen_frame ps c.self.invariant.framed c.args.at within))

pub returns-clause-within : goal.returns-clause-within
returns-clause-within g c = (is_chosen g c).within

pub returns-clause-chosen : goal.returns-clause-chosen
returns-clause-chosen g c = (is_chosen g c).chosen
