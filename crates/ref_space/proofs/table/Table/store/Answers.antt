use Rattle.ref_space.proofs.TableSlots.{slot_leads}
use Rattle.ref_space.proofs.table.Table.store.Goals as goal

pub set_field-requires : goal.set_field-requires
set_field-requires g c = slot_leads c.self.invariant c.self.view_is c.args.from c.requires.from c.index-2.ensures
