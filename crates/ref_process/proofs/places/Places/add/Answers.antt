use Rattle.std.proofs.Common.{refl, arith, ◌≡◌, ◌∙◌, length}
use Rattle.std.proofs.lemmas.List.{length-set}
use Rattle.ref_process.proofs.VacantPlaces.{taken_there, taken_round, taken_after, taken_key, taken_new, few, more_key}
use Rattle.ref_process.proofs.places.Places.add.Goals as goal

pub index-requires : goal.index-requires
index-requires g c =
    let there = taken_there c.self.inside.places.items c.self.inside.free.items c.pop.new.self.items c.in-Some.place
    c.self.invariant.0 c.in-Some.ensures.items in
    omega (arith, there, c.self.inside.places.ok.0)

pub index_mut-requires : goal.index_mut-requires
index_mut-requires g c =
    let there = taken_there c.self.inside.places.items c.self.inside.free.items c.pop.new.self.items c.in-Some.place
    c.self.invariant.0 c.in-Some.ensures.items in
    omega (arith, there, c.self.inside.places.ok.0)

pub invariant_of-self : goal.invariant_of-self
invariant_of-self g c =
    let round = taken_round c.self.inside.places.items c.self.inside.free.items c.pop.new.self.items c.in-Some.place
    c.self.invariant.0 c.in-Some.ensures.items c.index.result.now c.index.ensures in (
      taken_after c.self.inside.places.items c.self.inside.free.items c.pop.new.self.items c.in-Some.place
          c.self.invariant.0 c.in-Some.ensures.items _ refl round,
      simp length-set (omega (arith, c.self.invariant.1, c.in-Some.ensures.capacity)),
    )

pub returns-in-Some-clause-key : goal.returns-in-Some-clause-key
returns-in-Some-clause-key g c =
    let round = taken_round c.self.inside.places.items c.self.inside.free.items c.pop.new.self.items c.in-Some.place
    c.self.invariant.0 c.in-Some.ensures.items c.index.result.now c.index.ensures in
    rw (← c.self.view_is)
    (taken_key c.self.inside.places.items c.self.inside.free.items c.pop.new.self.items c.in-Some.place
    c.self.invariant.0 c.in-Some.ensures.items c.index.result.now.round round)

pub returns-in-Some-clause-after : goal.returns-in-Some-clause-after
returns-in-Some-clause-after g c =
    rw (← c.self.view_is)
    (taken_new c.self.inside.places.items c.self.inside.free.items c.pop.new.self.items c.in-Some.place
    c.self.invariant.0 c.in-Some.ensures.items c.index.result.now.round c.args.reference)

pub overflow_cast-result : goal.overflow_cast-result
overflow_cast-result g c =
    let none : length c.self.inside.free.items ≡ 0 =
    omega (arith, c.self.inside.free.ok.0, c.in-None.ensures.cases.0) in
    let below = few c.self.inside.places.items c.self.inside.free.items c.self.invariant.0 none
    (rw c.self.view_is c.requires) in
    grind (arith, below, c.self.inside.places.ok.0, c.len-place.ensures)

pub returns-in_ok-push-in-None-clause-key : goal.returns-in_ok-push-in-None-clause-key
returns-in_ok-push-in-None-clause-key g c =
    let none : length c.self.inside.free.items ≡ 0 =
    omega (arith, c.self.inside.free.ok.0, c.in-None.ensures.cases.0) in
    let is = more_key c.self.inside.places.items c.self.inside.free.items c.self.invariant.0 none in
    rw (← c.self.view_is) (rw (c.len-place.ensures ∙ c.self.inside.places.ok.0) is)
