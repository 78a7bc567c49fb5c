use Rattle.ref_clear.proofs.Common.{refl}
use Rattle.ref_clear.proofs.ChainedHeaps.{does_marked, sound_marked}
use Rattle.ref_clear.proofs.heap.Heap.hold.Goals as goal

pub invariant_of-self : goal.invariant_of-self
invariant_of-self g c = sound_marked c.self.invariant c.hold.ensures.does refl refl

pub returns-clause-does : goal.returns-clause-does
returns-clause-does g c = search does_marked
