use Rattle.ref_objects.proofs.Common.{Some, refl}
use Rattle.ref_objects.proofs.SlotLemmas.{spared_there}
use Rattle.ref_objects.proofs.SoundLemmas.{slot_sound}
use Rattle.ref_objects.proofs.objects.Objects.set_slot_at.Goals as goal

pub invariant_of-self : goal.invariant_of-self
invariant_of-self g c =
    rw (c.set_slot.ensures, spared_there c.self.invariant c.self.view_is c.args.no c.requires.spared)
    (slot_sound c.self.invariant c.args.place (Some c.args.no) c.self.view_is c.requires.spared)

pub returns : goal.returns
returns g c =
    rw (c.set_slot.ensures, spared_there c.self.invariant c.self.view_is c.args.no c.requires.spared, ← c.self.view_is)
    refl
