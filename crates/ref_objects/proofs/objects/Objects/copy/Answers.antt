use Rattle.ref_objects.proofs.Common.{refl, held_at}
use Rattle.ref_objects.proofs.SoundLemmas.{slot_sound, slot_spared}
use Rattle.ref_objects.proofs.objects.Objects.copy.Goals as goal

pub invariant_of-self : goal.invariant_of-self
invariant_of-self g c =
    rw c.copy_slot.ensures
    (slot_sound c.self.invariant c.in_ok-place.place (held_at c.self.inside.table c.in_ok-from.from) refl
    (slot_spared c.self.invariant refl c.in_ok-from.from refl))
