use Rattle.ref_space.specs.Pages.{chosen_frames}
use Rattle.ref_space.specs.PageViews.{NoneTaken}
use Rattle.ref_space.proofs.pages.Pages.first_with_left.Given as goal

abbrev pub invariant-loop-at : goal.invariant-loop-at
invariant-loop-at g l = NoneTaken l.fn.self.uses (chosen_frames l.fn.self.uses) l.at
