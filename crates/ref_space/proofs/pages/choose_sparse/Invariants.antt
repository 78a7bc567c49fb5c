use Rattle.std.proofs.Common.{◌≡◌, ◌++◌, take, drop}
use Rattle.std.specs.Vec.{vec_capacity}
use Rattle.ref_space.specs.Pages.{choosing, chosen_frames}
use Rattle.ref_space.proofs.pages.choose_sparse.Given as goal

abbrev pub invariant-loop-page : goal.invariant-loop-page
invariant-loop-page g l = record {
  are : l.pages ≡ choosing (take l.page-index l.fn.pages) ++ drop l.page-index l.fn.pages;
  listed : l.chosen.items ≡ chosen_frames (choosing (take l.page-index l.fn.pages));
  room : vec_capacity l.chosen ≡ vec_capacity l.fn.chosen;
}
