use Rattle.ref_space.specs.Tables.{round_of}
use Rattle.ref_space.proofs.Common.{◌∙◌, ap, Table}
use Rattle.ref_space.specs.Moves.{ways_of}
use Rattle.ref_space.proofs.ChosenLemmas.{seen_renumbered, sound_renumbered, unhealed_seen}
use Rattle.ref_space.proofs.table.Table.renumber.Goals as goal

pub invariant_of-self : goal.invariant_of-self
invariant_of-self g c =
    sound_renumbered c.self.invariant (ap (λ (t : Table). t.ways.tuned) c.self.view_is ∙ c.requires.tuned)
    (unhealed_seen (round_of c.self.inside.round c.self.inside.read.value) c.self.inside.cells.items
    c.self.inside.index.items
    (ways_of c.self.inside.pages c.self.inside.forwards.items c.self.inside.last_good c.self.inside.is_tuned)
    c.self.inside.slots.items c.self.inside.last c.self.inside.room c.self.view_is c.requires.healed)
    (ap (λ ps. ways_of ps c.self.inside.forwards.items c.self.inside.last_good c.self.inside.is_tuned)
    c.renumber.ensures.after) c.renumber.ensures.addresses

pub returns : goal.returns
returns g c =
    seen_renumbered c.self.invariant (ap (λ (t : Table). t.ways.tuned) c.self.view_is ∙ c.requires.tuned)
    (unhealed_seen (round_of c.self.inside.round c.self.inside.read.value) c.self.inside.cells.items
    c.self.inside.index.items
    (ways_of c.self.inside.pages c.self.inside.forwards.items c.self.inside.last_good c.self.inside.is_tuned)
    c.self.inside.slots.items c.self.inside.last c.self.inside.room c.self.view_is c.requires.healed)
    (ap (λ ps. ways_of ps c.self.inside.forwards.items c.self.inside.last_good c.self.inside.is_tuned)
    c.renumber.ensures.after) c.renumber.ensures.addresses c.self.view_is
