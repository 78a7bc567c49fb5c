use Rattle.ref_space.specs.Tables.{round_of}
use Rattle.ref_space.proofs.ReadLemmas.{change_reads}
use Rattle.ref_space.specs.Moves.{ways_of}
use Rattle.ref_space.proofs.Common.{refl, leads_by, target_by, occupants_of}
use Rattle.ref_space.proofs.PlaceLemmas.{IsPlaceOf-lent, IsMissing-lent}
use Rattle.ref_space.proofs.Common.{change_of}
use Rattle.ref_space.proofs.CellChanges.{sound_there, left_there, left_nowhere, change_keeps, change_leaves}
use Rattle.ref_space.proofs.CellChanges.{change-named, change_leads}
use Rattle.ref_space.proofs.table.Table.change.Goals as goal
use Rattle.ref_space.proofs.Common.{arith}

pub invariant_of-self : goal.invariant_of-self
invariant_of-self g c =
    sound_there c.self.invariant
    (IsPlaceOf-lent c.args.no c.deref.ensures.value c.deref-2.ensures.value c.in-Some.ensures)
    (change_of c.args.change) (change_of c.args.change) (change_keeps c.args.change) c.index_mut.ensures.value
    c.change.ensures (change_leads c.self.inside.round.number
    (leads_by c.self.inside.round.good (ways_of c.self.inside.pages c.self.inside.forwards.items c.self.inside.last_good
    c.self.inside.is_tuned) (occupants_of c.self.inside.cells.items))
    (λ b. refl)
    c.args.change)
    (change_reads (round_of c.self.inside.round c.self.inside.read.value) c.args.change)
    (change_leaves c.args.change)

pub returns-in-Some : goal.returns-in-Some
returns-in-Some g c =
    left_there c.self.invariant
    (IsPlaceOf-lent c.args.no c.deref.ensures.value c.deref-2.ensures.value c.in-Some.ensures)
    (change_of c.args.change) (change_of c.args.change) (change_keeps c.args.change) c.index_mut.ensures.value
    c.change.ensures c.self.view_is
    (change-named (target_by (ways_of c.self.inside.pages c.self.inside.forwards.items c.self.inside.last_good
    c.self.inside.is_tuned) (occupants_of c.self.inside.cells.items)) refl c.args.change)

pub returns-in_default : goal.returns-in_default
returns-in_default g c =
    left_nowhere c.self.invariant
    (IsMissing-lent c.args.no c.deref.ensures.value c.deref-2.ensures.value c.in_default.ensures) c.self.view_is
    (change_of c.args.change)

pub index_mut-requires : goal.index_mut-requires
index_mut-requires g c =
    let place = IsPlaceOf-lent c.args.no c.deref.ensures.value c.deref-2.ensures.value c.in-Some.ensures in
    omega (arith, c.self.inside.cells.ok.0, place.within)
