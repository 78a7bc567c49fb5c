use Rattle.ref_space.proofs.Common.{arith, length, tabled_fields}
use Rattle.ref_space.proofs.CellChanges.{lying_place, answered_there, field_count-named}
use Rattle.ref_space.proofs.table.Table.field_count.Goals as goal

pub index-requires : goal.index-requires
index-requires g c =
    let place = lying_place c.self.invariant c.self.view_is c.requires in
    omega (arith, c.self.inside.cells.ok.0, place.within)

pub returns : goal.returns
returns g c =
    answered_there c.self.invariant (lying_place c.self.invariant c.self.view_is c.requires) c.self.view_is
    (λ k. length (tabled_fields k)) field_count-named c.index.ensures c.field_count.ensures
