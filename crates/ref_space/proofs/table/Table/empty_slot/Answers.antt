use Rattle.ref_space.proofs.Common.{refl, ap, target_of}
use Rattle.ref_space.proofs.TableSlots.{slot_sound, slot_seen}
use Rattle.ref_space.proofs.table.Table.empty_slot.Goals as goal

pub invariant_of-self : goal.invariant_of-self
invariant_of-self g c = slot_sound c.self.invariant c.self.view_is c.args.place c.null.result (rw c.null.ensures refl)

pub returns : goal.returns
returns g c =
    slot_seen c.self.invariant c.self.view_is c.args.place c.null.result (ap (target_of c.args.self.now) c.null.ensures)
