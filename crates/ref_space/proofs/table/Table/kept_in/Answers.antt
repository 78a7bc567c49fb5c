use Rattle.ref_space.specs.Moves.{ways_of}
use Rattle.ref_space.proofs.Common.{arith, ap, ◌∙◌, sym, target_of, target_by, occupants_of, Table, tabled_reference}
use Rattle.ref_space.proofs.Common.{option_map, reference_by_number}
use Rattle.ref_space.proofs.CellChanges.{lying_place, named_there, reference-named}
use Rattle.ref_space.proofs.table.Table.kept_in.Goals as goal

pub index-requires : goal.index-requires
index-requires g c =
    let place = lying_place c.self.invariant c.self.view_is c.requires in
    omega (arith, c.self.inside.cells.ok.0, place.within)

pub returns : goal.returns
returns g c =
    let name = target_by (ways_of c.self.inside.pages c.self.inside.forwards.items c.self.inside.last_good
    c.self.inside.is_tuned) (occupants_of c.self.inside.cells.items) in
    named_there c.self.invariant (lying_place c.self.invariant c.self.view_is c.requires) c.self.view_is
    tabled_reference c.index.ensures
    (ap (λ (t : Table). option_map (reference_by_number (target_of t)) c.kept.result) (sym c.self.view_is)
    ∙ ap (option_map (reference_by_number name)) c.kept.ensures ∙ reference-named name c.index.result.now)
