use Rattle.ref_objects.proofs.SoundLemmas.{clock_sound}
use Rattle.ref_objects.proofs.objects.Objects.set_clock.Goals as goal

pub invariant_of-self : goal.invariant_of-self
invariant_of-self g c = clock_sound c.self.invariant c.args.now
