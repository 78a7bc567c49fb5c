use Rattle.std.proofs.Common.{◌≡◌, take}
use Rattle.ref_space.specs.Pages.{reserving, taken_in, chosen_frames}
use Rattle.ref_space.proofs.pages.Pages.reserve.Given as goal

abbrev pub invariant-loop-at : goal.invariant-loop-at
invariant-loop-at g l =
    (l.self, l.forwards)
    ≡ reserving (l.fn.self, l.fn.forwards) (taken_in l.fn.self.uses (take l.at (chosen_frames l.fn.self.uses)))
