use Rattle.ref_space.proofs.Common.{◌≡◌, None, replicate, vec_len, vec_capacity}
use Rattle.ref_space.proofs.table.empty_slots.Given as goal

abbrev pub invariant-loop-place : goal.invariant-loop-place
invariant-loop-place g l = record {
  are : l.slots.items ≡ replicate l._place None;
  count : vec_len l.slots ≡ l._place;
  room : vec_capacity l.slots ≡ l.count;
}
