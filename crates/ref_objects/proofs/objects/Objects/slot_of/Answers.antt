use Rattle.ref_objects.proofs.SoundLemmas.{slot_spared}
use Rattle.ref_objects.proofs.objects.Objects.slot_of.Goals as goal

pub returns-clause-spared : goal.returns-clause-spared
returns-clause-spared g c = slot_spared c.self.invariant c.self.view_is c.in_ok-place.place c.slot.ensures
