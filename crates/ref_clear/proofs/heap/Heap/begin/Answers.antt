use Rattle.ref_clear.proofs.Common.{arith}
use Rattle.ref_clear.proofs.ChainedHeaps.{does_refused, sound_refused, does_begun, sound_begun}
use Rattle.ref_clear.proofs.heap.Heap.begin.Goals as goal

pub invariant_of-self : goal.invariant_of-self
invariant_of-self g c = sound_refused c.self.invariant c.in_err-cycle.ensures

pub returns-in_err-cycle : goal.returns-in_err-cycle
returns-in_err-cycle g c = grind (arith, does_refused c.self.invariant c.in_err-cycle.ensures)

pub invariant_of-self-2 : goal.invariant_of-self-2
invariant_of-self-2 g c =
    sound_begun c.self.invariant c.in_ok-cycle.ensures (rw c.deref.ensures.value at c.shade_pending.ensures)

pub returns : goal.returns
returns g c =
    does_begun c.self.invariant c.in_ok-cycle.ensures (rw c.deref.ensures.value at c.shade_pending.ensures)
    c.self.view_is
