use Rattle.ref_world.proofs.Common.{◌≡◌, [], vec_len, vec_capacity}
use Rattle.std.proofs.Common.{replicate}
use Rattle.ref_world.proofs.hands.empty_hands.Given as goal

-- the hands so far are empty, and there is room for the others
abbrev pub invariant-loop-hand : goal.invariant-loop-hand
invariant-loop-hand g l = record {
  are : l.hands.items ≡ replicate l._hand [];
  length : vec_len l.hands ≡ l._hand;
  capacity : vec_capacity l.hands ≡ l.count;
}
