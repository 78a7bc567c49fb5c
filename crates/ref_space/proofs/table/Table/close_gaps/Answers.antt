use Rattle.ref_space.specs.Tables.{round_of}
use Rattle.ref_space.specs.Moves.{ways_of}
use Rattle.ref_space.proofs.Common.{◌∙◌}
use Rattle.ref_space.proofs.PushLemmas.{seen_closed, naming_closed, counted_closed}
use Rattle.ref_space.proofs.table.Table.close_gaps.Goals as goal

pub invariant_of-self : goal.invariant_of-self
invariant_of-self g c = (
  counted_closed c.self.invariant.0 c.deref.ensures.value c.close_gaps.ensures.entries c.close_gaps.ensures.capacity,
  naming_closed c.self.invariant.1 c.deref.ensures.value c.close_gaps.ensures.entries,
)

pub returns-then-len : goal.returns-then-len
returns-then-len g c =
    seen_closed c.self.inside.index.items (round_of c.self.inside.round c.self.inside.read.value)
    (ways_of c.self.inside.pages c.self.inside.forwards.items c.self.inside.last_good c.self.inside.is_tuned)
    c.self.inside.last
    c.self.inside.room
    c.self.inside.slots.items c.deref.ensures.value c.close_gaps.ensures.entries
    ∙ c.self.view_is
