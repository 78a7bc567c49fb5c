use Rattle.std.proofs.Common.{◌≡◌, ◌*◌, take}
use Rattle.ref_space.specs.Pages.{reserving, taken_places, use_of}
use Rattle.ref_space.proofs.pages.Pages.reserve_frame.Given as goal

abbrev pub invariant-loop-cell : goal.invariant-loop-cell
invariant-loop-cell g l =
    (l.self, l.forwards)
    ≡ reserving (l.fn.self, l.fn.forwards)
    (taken_places (64 * l.fn.frame) (take l.cell (use_of l.fn.self.uses l.fn.frame).free))
