use Rattle.ref_mark.proofs.Common.{◌≡◌, take, present, shaded_all}
use Rattle.ref_mark.proofs.marker.Marker.shade_slots.Given as goal

abbrev pub invariant-loop-place : goal.invariant-loop-place
invariant-loop-place g l = l.self ≡ shaded_all l.fn.self (present (take l.place l.fn.self.heap.slots))
