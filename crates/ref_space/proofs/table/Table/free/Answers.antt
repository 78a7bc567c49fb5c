use Rattle.ref_space.proofs.CellChanges.{round_seen}
use Rattle.ref_space.proofs.Common.{arith, is_unmarked_in}
use Rattle.ref_space.proofs.PlaceLemmas.{IsPlaceOf-lent, IsMissing-lent}
use Rattle.ref_space.proofs.CellChanges.{answered_nowhere, freed_nowhere, has_page, one_fewer, sound_freed, goes_answer}
use Rattle.ref_space.proofs.CellChanges.{freed_there, kept_there}
use Rattle.ref_space.proofs.Common.{◌∙◌, ap, refl, sym, Table}
use Rattle.ref_space.proofs.BroughtLemmas.{settled_left}
use Rattle.ref_space.proofs.table.Table.free.Goals as goal

pub returns-in_default-clause-answer : goal.returns-in_default-clause-answer
returns-in_default-clause-answer g c =
    rw (round_seen c.self.invariant c.self.view_is)
    (answered_nowhere c.self.invariant
    (IsMissing-lent c.args.entry.no c.deref.ensures.value c.deref-2.ensures.value c.in_default.ensures) c.self.view_is
    (is_unmarked_in c.self.inside.round.number))

pub returns-in_default-clause-after : goal.returns-in_default-clause-after
returns-in_default-clause-after g c =
    freed_nowhere c.self.invariant
    (IsMissing-lent c.args.entry.no c.deref.ensures.value c.deref-2.ensures.value c.in_default.ensures) c.self.view_is

pub give-requires : goal.give-requires
give-requires g c =
    grind (
      arith,
      has_page c.self.invariant
          (IsPlaceOf-lent c.args.entry.no c.deref.ensures.value c.deref-2.ensures.value c.in-Some.ensures),
    )

pub overflow_sub-self : goal.overflow_sub-self
overflow_sub-self g c =
    omega (
      arith,
      one_fewer c.self.invariant
          (IsPlaceOf-lent c.args.entry.no c.deref.ensures.value c.deref-2.ensures.value c.in-Some.ensures),
    )

pub invariant_of-self : goal.invariant_of-self
invariant_of-self g c =
    sound_freed c.self.invariant
    (IsPlaceOf-lent c.args.entry.no c.deref.ensures.value c.deref-2.ensures.value c.in-Some.ensures)
    c.self.view_is c.index.ensures c.is_unmarked-goes.ensures c.if-goes.true c.vacate.ensures
    c.give.ensures c.requires.tuned c.requires.unnamed

pub returns-then-goes-clause-answer : goal.returns-then-goes-clause-answer
returns-then-goes-clause-answer g c =
    goes_answer c.self.invariant
    (IsPlaceOf-lent c.args.entry.no c.deref.ensures.value c.deref-2.ensures.value c.in-Some.ensures)
    c.self.view_is c.index.ensures c.is_unmarked-goes.ensures

pub returns-then-goes-clause-after : goal.returns-then-goes-clause-after
returns-then-goes-clause-after g c =
    freed_there c.self.invariant
    (IsPlaceOf-lent c.args.entry.no c.deref.ensures.value c.deref-2.ensures.value c.in-Some.ensures)
    c.self.view_is c.index.ensures c.is_unmarked-goes.ensures c.if-goes.true c.vacate.ensures
    c.give.ensures c.requires.tuned c.requires.unnamed

pub returns-else-goes-clause-answer : goal.returns-else-goes-clause-answer
returns-else-goes-clause-answer g c =
    goes_answer c.self.invariant
    (IsPlaceOf-lent c.args.entry.no c.deref.ensures.value c.deref-2.ensures.value c.in-Some.ensures)
    c.self.view_is c.index.ensures c.is_unmarked-goes.ensures

pub returns-else-goes-clause-after : goal.returns-else-goes-clause-after
returns-else-goes-clause-after g c =
    kept_there c.self.invariant
    (IsPlaceOf-lent c.args.entry.no c.deref.ensures.value c.deref-2.ensures.value c.in-Some.ensures)
    c.self.view_is c.index.ensures c.is_unmarked-goes.ensures c.if-goes.false

pub index-requires : goal.index-requires
index-requires g c =
    let place = IsPlaceOf-lent c.args.entry.no c.deref.ensures.value c.deref-2.ensures.value c.in-Some.ensures in
    omega (arith, c.self.inside.cells.ok.0, place.within)

pub index_mut-requires : goal.index_mut-requires
index_mut-requires g c =
    let place = IsPlaceOf-lent c.args.entry.no c.deref.ensures.value c.deref-2.ensures.value c.in-Some.ensures in
    omega (arith, c.self.inside.cells.ok.0, place.within)

pub returns-then-goes-clause-left : goal.returns-then-goes-clause-left
returns-then-goes-clause-left g c =
    settled_left
    (sound_freed c.self.invariant
    (IsPlaceOf-lent c.args.entry.no c.deref.ensures.value c.deref-2.ensures.value c.in-Some.ensures)
    c.self.view_is c.index.ensures c.is_unmarked-goes.ensures c.if-goes.true c.vacate.ensures
    c.give.ensures c.requires.tuned c.requires.unnamed)
    refl (ap (λ (t : Table). t.ways.tuned) c.self.view_is ∙ c.requires.tuned)
    ∙ sym (settled_left c.self.invariant c.self.view_is c.requires.tuned)

pub returns-else-goes-clause-left : goal.returns-else-goes-clause-left
returns-else-goes-clause-left g c = refl
