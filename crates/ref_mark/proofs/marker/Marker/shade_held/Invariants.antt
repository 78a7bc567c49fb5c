use Rattle.ref_mark.proofs.Common.{◌≡◌, length, IsInOrder}
use Rattle.ref_mark.proofs.LoopLemmas.{IsHeldFrom, still_held}
use Rattle.ref_mark.proofs.marker.Marker.shade_held.Given as goal

abbrev pub invariant-loop-held : goal.invariant-loop-held
invariant-loop-held g l =
    IsHeldFrom l.fn.self l.self l.held l.fn.self.heap.holds × (l.self.heap ≡ l.fn.self.heap)
    × IsInOrder l.fn.self.heap.holds

abbrev pub decreases-loop-held : goal.decreases-loop-held
decreases-loop-held g l = length (still_held l.held l.fn.self.heap.holds)
