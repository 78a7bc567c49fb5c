use Rattle.std.proofs.Common.{◌∙◌, sym, arith}
use Rattle.ref_space.proofs.MoveLemmas.{cells_fit}
use Rattle.ref_space.proofs.pages.sparse_cells.Goals as goal

pub overflow_add-cells : goal.overflow_add-cells
overflow_add-cells c =
    let most = cells_fit c.args.pages.now c.loop-page.page-index c.loop-page.cells c.taken.result c.page-item.result
    c.loop-page-test.true c.loop-page.invariant c.taken.ensures (sym c.is_sparse.ensures ∙ c.if-is_sparse.true) in
    omega (arith, most, c.requires)
