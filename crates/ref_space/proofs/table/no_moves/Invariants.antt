use Rattle.ref_space.proofs.Common.{◌≡◌, replicate, vec_len, vec_capacity}
use Rattle.ref_space.proofs.table.no_moves.Given as goal

abbrev pub invariant-loop-place : goal.invariant-loop-place
invariant-loop-place g l = record {
  are : l.forwards.items ≡ replicate l._place 0;
  count : vec_len l.forwards ≡ l._place;
  room : vec_capacity l.forwards ≡ l.count;
}
