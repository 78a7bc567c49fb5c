use Rattle.ref_clear.proofs.Common.{◌≡◌, take, joined, lists_in, shaded_all}
use Rattle.ref_clear.proofs.heap.cycle.shade_pending.Given as goal

abbrev pub invariant-loop-worker : goal.invariant-loop-worker
invariant-loop-worker g l =
    l.marker ≡ shaded_all l.fn.marker (joined (take l.worker (lists_in l.fn.marker l.fn.pending)))
