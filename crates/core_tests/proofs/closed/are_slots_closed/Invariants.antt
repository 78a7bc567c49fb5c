use Rattle.std.proofs.Common.{take}
use Rattle.core_tests.proofs.ClosedLemmas.{AreIn}
use Rattle.core_tests.proofs.closed.are_slots_closed.Given as goal

-- what the slots up to here hold is marked
abbrev pub invariant-loop-place : goal.invariant-loop-place
invariant-loop-place g l = AreIn (take l.place l.fn.heap.heap.slots) l.fn.heap.marked
