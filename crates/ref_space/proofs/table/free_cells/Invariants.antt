use Rattle.ref_space.proofs.Common.{◌≡◌, replicate, None, vec_len, vec_capacity}
use Rattle.ref_space.proofs.table.free_cells.Given as goal

abbrev pub invariant-loop-place : goal.invariant-loop-place
invariant-loop-place g l = record {
  are : l.cells.items ≡ replicate l._place None;
  count : vec_len l.cells ≡ l._place;
  room : vec_capacity l.cells ≡ l.room;
}
