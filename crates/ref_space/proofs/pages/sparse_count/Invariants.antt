use Rattle.std.proofs.Common.{◌≡◌, take}
use Rattle.ref_space.specs.Pages.{sparse_count}
use Rattle.ref_space.proofs.pages.sparse_count.Given as goal

abbrev pub invariant-loop-page : goal.invariant-loop-page
invariant-loop-page l = l.count ≡ sparse_count (take l.page-index l.pages)
