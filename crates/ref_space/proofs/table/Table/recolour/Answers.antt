use Rattle.ref_space.proofs.Common.{◌≡◌, ◌∙◌, false, arith, ap, occupants_of, option_map, cell_at}
use Rattle.ref_space.proofs.CellChanges.{lying_place, recoloured_there, nothing_left, sound_healed, seen_healed}
use Rattle.ref_space.proofs.HealLemmas.{healed_by}
use Rattle.ref_space.specs.Moves.{ways_of}
use Rattle.ref_space.specs.Naming.{healed_word}
use Rattle.ref_space.specs.Pages.{has_chosen}
use Rattle.ref_space.specs.Tables.{Table}
use Rattle.ref_space.proofs.table.Table.recolour.Given.{Over}
use Rattle.ref_space.proofs.table.Table.recolour.Goals as goal

pub index_mut-requires : goal.index_mut-requires
index_mut-requires g c =
    let place = lying_place c.self.invariant c.self.view_is c.requires.lies in
    omega (arith, c.self.inside.cells.ok.0, place.within)

none : (g : Over) (c : goal.After-self-1 g) → has_chosen c.self.inside.pages.uses ≡ false
none g c = ap (λ (t : Table). has_chosen t.ways.pages.uses) c.self.view_is ∙ c.requires.settled

healed : (g : Over) (c : goal.After-self-1 g)
    → c.recolour.new.self
    ≡ option_map (healed_by (healed_word c.self.inside.round.good
    (ways_of c.self.inside.pages c.self.inside.forwards.items c.self.inside.last_good c.self.inside.is_tuned)
    (occupants_of c.self.inside.cells.items)) c.self.inside.round.number)
    (cell_at c.self.inside.cells.items c.args.place)
healed g c =
    recoloured_there c.self.invariant (lying_place c.self.invariant c.self.view_is c.requires.lies) (none g c)
    c.index_mut.ensures.value c.recolour.ensures

pub invariant_of-self : goal.invariant_of-self
invariant_of-self g c =
    sound_healed c.self.invariant (lying_place c.self.invariant c.self.view_is c.requires.lies)
    (nothing_left c.self.invariant (none g c)) (healed g c)

pub returns : goal.returns
returns g c =
    seen_healed c.self.invariant (lying_place c.self.invariant c.self.view_is c.requires.lies)
    (nothing_left c.self.invariant (none g c)) (healed g c) c.self.view_is
