use Rattle.ref_objects.proofs.Common.{None}
use Rattle.ref_objects.proofs.SoundLemmas.{slot_sound}
use Rattle.ref_objects.proofs.objects.Objects.set_slot.Goals as goal

pub invariant_of-self : goal.invariant_of-self
invariant_of-self g c =
    rw c.empty_slot.ensures (slot_sound c.self.invariant c.in_ok-place.place None c.self.view_is tt)
