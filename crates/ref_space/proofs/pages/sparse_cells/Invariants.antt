use Rattle.std.proofs.Common.{◌≡◌, take}
use Rattle.ref_space.specs.Pages.{sparse_cells}
use Rattle.ref_space.proofs.pages.sparse_cells.Given as goal

abbrev pub invariant-loop-page : goal.invariant-loop-page
invariant-loop-page l = l.cells ≡ sparse_cells (take l.page-index l.pages)
