use Rattle.ref_space.proofs.TableSlots.{slot_sound, slot_seen}
use Rattle.ref_space.proofs.table.Table.set_slot.Goals as goal

pub invariant_of-self : goal.invariant_of-self
invariant_of-self g c =
    slot_sound c.self.invariant c.self.view_is c.args.place c.word_of-word.result c.word_of-word.ensures.healed

pub returns : goal.returns
returns g c =
    slot_seen c.self.invariant c.self.view_is c.args.place c.word_of-word.result c.word_of-word.ensures.named
