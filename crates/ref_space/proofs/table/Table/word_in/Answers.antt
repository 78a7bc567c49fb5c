use Rattle.ref_space.specs.Moves.{ways_of}
use Rattle.ref_space.proofs.Common.{arith, refl, ap, ◌∙◌, field_held, target_of, target_by, occupants_of, sym, Table}
use Rattle.ref_space.proofs.CellChanges.{lying_place, named_there, held-in_cell}
use Rattle.ref_space.proofs.table.Table.word_in.Goals as goal

pub index-requires : goal.index-requires
index-requires g c =
    let place = lying_place c.self.invariant c.self.view_is c.requires in
    omega (arith, c.self.inside.cells.ok.0, place.within)

pub returns : goal.returns
returns g c =
    let name = target_by (ways_of c.self.inside.pages c.self.inside.forwards.items c.self.inside.last_good
    c.self.inside.is_tuned) (occupants_of c.self.inside.cells.items) in
    named_there c.self.invariant (lying_place c.self.invariant c.self.view_is c.requires) c.self.view_is
    (λ k. field_held k c.args.field) c.index.ensures
    (ap (λ (t : Table). target_of t c.word.result) (sym c.self.view_is) ∙ ap name c.word.ensures
    ∙ held-in_cell name refl c.index.result.now c.args.field)
