use Rattle.ref_objects.proofs.SoundLemmas.{ended_sound}
use Rattle.ref_objects.proofs.objects.Objects.end_cycle.Goals as goal

pub invariant_of-self : goal.invariant_of-self
invariant_of-self g c = rw c.close_gaps.ensures (ended_sound c.self.invariant)
