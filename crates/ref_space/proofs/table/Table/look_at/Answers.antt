use Rattle.ref_space.specs.Tables.{round_of}
use Rattle.ref_space.proofs.ReadLemmas.{change_reads}
use Rattle.ref_space.specs.Moves.{ways_of}
use Rattle.ref_space.proofs.Common.{refl, arith, leads_by, occupants_of, change_of, ClearIn}
use Rattle.ref_space.proofs.PlaceLemmas.{IsPlaceOf-lent, IsMissing-lent}
use Rattle.ref_space.proofs.CellChanges.{look_nowhere, uncleared_nowhere, sound_there, look_told, cleared_there}
use Rattle.ref_space.proofs.CellChanges.{uncleared_there, change_keeps, change_leads, change_leaves}
use Rattle.ref_space.proofs.table.Table.look_at.Goals.{else-is_cleared, then-is_cleared}
use Rattle.ref_space.proofs.table.Table.look_at.Goals as goal

pub returns-in_default-clause-answer : goal.returns-in_default-clause-answer
returns-in_default-clause-answer g c =
    grind (
      arith,
      look_nowhere c.self.invariant
          (IsMissing-lent c.args.no c.deref.ensures.value c.deref-2.ensures.value c.in_default.ensures)
          c.self.view_is,
    )

pub returns-in_default-clause-after : goal.returns-in_default-clause-after
returns-in_default-clause-after g c =
    uncleared_nowhere c.self.invariant
    (IsMissing-lent c.args.no c.deref.ensures.value c.deref-2.ensures.value c.in_default.ensures)
    c.self.view_is c.args.cycle

pub index_mut-requires : goal.index_mut-requires
index_mut-requires g c =
    let place = IsPlaceOf-lent c.args.no c.deref.ensures.value c.deref-2.ensures.value c.in-Some.ensures in
    omega (arith, c.self.inside.cells.ok.0, place.within)

pub invariant_of-self : goal.invariant_of-self
invariant_of-self g c =
    sound_there c.self.invariant
    (IsPlaceOf-lent c.args.no c.deref.ensures.value c.deref-2.ensures.value c.in-Some.ensures)
    (change_of (ClearIn c.args.cycle)) (change_of (ClearIn c.args.cycle)) (change_keeps (ClearIn c.args.cycle))
    c.index_mut.ensures.value c.change.ensures
    (change_leads c.self.inside.round.number (leads_by c.self.inside.round.good
    (ways_of c.self.inside.pages c.self.inside.forwards.items c.self.inside.last_good c.self.inside.is_tuned)
    (occupants_of c.self.inside.cells.items)) (λ b. refl)
    (ClearIn c.args.cycle))
    (change_reads (round_of c.self.inside.round c.self.inside.read.value) (ClearIn c.args.cycle))
    (change_leaves (ClearIn c.args.cycle))

pub returns-clause-answer : goal.returns-clause-answer
returns-clause-answer g c =
    look_told c.self.invariant
    (IsPlaceOf-lent c.args.no c.deref.ensures.value c.deref-2.ensures.value c.in-Some.ensures)
    c.self.view_is c.index.ensures c.index-2.ensures c.told-was.ensures c.kept.ensures
    c.refers_to_unmarked-is_cleared.ensures

pub returns-clause-after : goal.returns-clause-after
returns-clause-after g c =
    elim c.if-is_cleared.branch [
      | then-is_cleared w ↦
          rw w.self-is
          (cleared_there c.self.invariant
          (IsPlaceOf-lent c.args.no c.deref.ensures.value c.deref-2.ensures.value c.in-Some.ensures)
          c.self.view_is c.index.ensures c.index-2.ensures c.told-was.ensures c.kept.ensures
          c.refers_to_unmarked-is_cleared.ensures c.args.cycle
          w.if-is_cleared.true w.index_mut.ensures.value w.change.ensures)
      | else-is_cleared w ↦
          rw w.self-is
          (uncleared_there c.self.invariant
          (IsPlaceOf-lent c.args.no c.deref.ensures.value c.deref-2.ensures.value c.in-Some.ensures)
          c.self.view_is c.index.ensures c.index-2.ensures c.told-was.ensures c.kept.ensures
          c.refers_to_unmarked-is_cleared.ensures c.args.cycle
          w.if-is_cleared.false)
    ]

pub index-requires : goal.index-requires
index-requires g c =
    let place = IsPlaceOf-lent c.args.no c.deref.ensures.value c.deref-2.ensures.value c.in-Some.ensures in
    omega (arith, c.self.inside.cells.ok.0, place.within)

pub index-requires-2 : goal.index-requires-2
index-requires-2 g c =
    let place = IsPlaceOf-lent c.args.no c.deref.ensures.value c.deref-2.ensures.value c.in-Some.ensures in
    omega (arith, c.self.inside.cells.ok.0, place.within)
