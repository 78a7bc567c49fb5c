use Rattle.ref_clear.proofs.Common.{◌≡◌, length}
use Rattle.ref_clear.proofs.SweepLoops.{IsSwept}
use Rattle.ref_clear.proofs.heap.sweep.free_some.Given as goal

abbrev pub invariant-loop-freed : goal.invariant-loop-freed
invariant-loop-freed g l =
    IsSwept l.fn.marker l.marker l.freed l.condemned.stands × (l.condemned.room ≡ l.fn.condemned.room)

abbrev pub decreases-loop-freed : goal.decreases-loop-freed
decreases-loop-freed g l = length l.condemned.stands
