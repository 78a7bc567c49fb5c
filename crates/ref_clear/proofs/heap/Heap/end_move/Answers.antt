use Rattle.ref_clear.proofs.ChainedHeaps.{does_marked, sound_marked}
use Rattle.ref_clear.proofs.heap.Heap.end_move.Goals as goal

pub invariant_of-self : goal.invariant_of-self
invariant_of-self g c = search sound_marked

pub returns : goal.returns
returns g c = search does_marked
