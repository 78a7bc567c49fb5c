use Rattle.ref_space.proofs.Common.{refl, ap}
use Rattle.ref_space.proofs.PlaceLemmas.{IsPlaceOf-lent, IsMissing-lent}
use Rattle.ref_space.proofs.Common.{less_held, holds_in, nat_lt}
use Rattle.ref_space.proofs.CellChanges.{sound_there, left_there, left_nowhere, answered_there, answered_nowhere}
use Rattle.ref_space.proofs.CellChanges.{holds-named}
use Rattle.ref_space.proofs.table.Table.drop_hold.Goals as goal
use Rattle.ref_space.proofs.Common.{arith}

pub invariant_of-self : goal.invariant_of-self
invariant_of-self g c =
    sound_there c.self.invariant
    (IsPlaceOf-lent c.args.no c.deref.ensures.value c.deref-2.ensures.value c.in-Some.ensures)
    less_held less_held (λ k. refl) c.index_mut.ensures.value c.drop_hold.ensures.after (λ k each. each)
    (λ k read. read) (λ k. refl)

pub returns-in-Some-clause-held : goal.returns-in-Some-clause-held
returns-in-Some-clause-held g c =
    answered_there c.self.invariant
    (IsPlaceOf-lent c.args.no c.deref.ensures.value c.deref-2.ensures.value c.in-Some.ensures)
    c.self.view_is (λ k. nat_lt 0 (holds_in k)) (λ name k. ap (nat_lt 0) (holds-named name k))
    c.index_mut.ensures.value c.drop_hold.ensures.held

pub returns-in-Some-clause-after : goal.returns-in-Some-clause-after
returns-in-Some-clause-after g c =
    left_there c.self.invariant
    (IsPlaceOf-lent c.args.no c.deref.ensures.value c.deref-2.ensures.value c.in-Some.ensures)
    less_held less_held (λ k. refl) c.index_mut.ensures.value c.drop_hold.ensures.after c.self.view_is (λ k. refl)

pub returns-in-None-clause-held : goal.returns-in-None-clause-held
returns-in-None-clause-held g c =
    answered_nowhere c.self.invariant
    (IsMissing-lent c.args.no c.deref.ensures.value c.deref-2.ensures.value c.in-None.ensures) c.self.view_is
    (λ k. nat_lt 0 (holds_in k))

pub returns-in-None-clause-after : goal.returns-in-None-clause-after
returns-in-None-clause-after g c =
    left_nowhere c.self.invariant
    (IsMissing-lent c.args.no c.deref.ensures.value c.deref-2.ensures.value c.in-None.ensures) c.self.view_is less_held

pub index_mut-requires : goal.index_mut-requires
index_mut-requires g c =
    let place = IsPlaceOf-lent c.args.no c.deref.ensures.value c.deref-2.ensures.value c.in-Some.ensures in
    omega (arith, c.self.inside.cells.ok.0, place.within)
