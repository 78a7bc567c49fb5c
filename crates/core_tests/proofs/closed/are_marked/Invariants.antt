use Rattle.std.proofs.Common.{take}
use Rattle.core_tests.proofs.ClosedLemmas.{AreIn}
use Rattle.core_tests.proofs.closed.are_marked.Given as goal

-- what the fields up to here hold is marked
abbrev pub invariant-loop-field : goal.invariant-loop-field
invariant-loop-field g l = AreIn (take l.field l.fn.fields) l.fn.heap.marked
