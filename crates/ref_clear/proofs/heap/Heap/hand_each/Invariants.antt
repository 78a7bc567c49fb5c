use Rattle.ref_clear.proofs.HandBatches.{LeadsOn}
use Rattle.ref_clear.proofs.heap.Heap.hand_each.Given as goal

abbrev pub invariant-loop-left : goal.invariant-loop-left
invariant-loop-left g l =
    LeadsOn l.fn.self l.fn.worker l.fn.with l.fn.max l.fn.batch l.fn.numbers l.self l.left l.batch l.numbers

abbrev pub decreases-loop-left : goal.decreases-loop-left
decreases-loop-left g l = l.left
