use Rattle.ref_space.proofs.Common.{◌≡◌, ◌++◌, map, take, drop, begun_cell}
use Rattle.ref_space.proofs.table.forget_rounds.Given as goal

-- the cells so far are unmarked, the others as they were
abbrev pub invariant-loop-cell : goal.invariant-loop-cell
invariant-loop-cell l =
    l.cells ≡ map begun_cell (take l.cell-index l.fn.cells) ++ drop l.cell-index l.fn.cells
