use Rattle.ref_clear.proofs.Common.{◌-◌}
use Rattle.ref_clear.proofs.ShadedLists.{IsShading}
use Rattle.ref_clear.proofs.heap.cycle.shade_listed.Given as goal

-- the chain is shaded once the numbers from the next on are
abbrev pub invariant-loop-step : goal.invariant-loop-step
invariant-loop-step g l =
    IsShading l.fn.marker l.marker l.fn.list (l.fn.marker.heap.config.cells - l._step) l.next
