use Rattle.ref_space.proofs.Common.{◌∙◌, ap, sym, slice_set, arith, map_over_more, begun_cell}
use Rattle.ref_space.proofs.table.forget_rounds.Goals as goal

pub loop-cell-preserved : goal.loop-cell-preserved
loop-cell-preserved c =
    ap (slice_set c.loop-cell.cells c.loop-cell.cell-index) (c.forget_rounds.ensures
    ∙ ap begun_cell (sym c.cell-item.is))
    ∙ map_over_more begun_cell c.args.cells.now c.loop-cell.cells c.loop-cell.cell-index c.cell-item.result
    (omega (arith, c.loop-cell-test.true)) c.loop-cell.invariant c.cell-item.is
