use Rattle.ref_space.proofs.TableSlots.{slot_leads, slot_named, slot_sound, slot_seen}
use Rattle.ref_space.proofs.table.Table.copy_slot.Goals as goal

pub invariant_of-self : goal.invariant_of-self
invariant_of-self g c =
    slot_sound c.self.invariant c.self.view_is c.args.into c.index.result.now
    (slot_leads c.self.invariant c.self.view_is c.args.from c.requires.from c.index.ensures)

pub returns : goal.returns
returns g c =
    slot_seen c.self.invariant c.self.view_is c.args.into c.index.result.now
    (slot_named c.self.invariant c.self.view_is c.args.from c.requires.from c.index.ensures)
