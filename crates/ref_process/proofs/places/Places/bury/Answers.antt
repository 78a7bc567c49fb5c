use Rattle.std.proofs.Common.{refl, arith}
use Rattle.std.proofs.lemmas.List.{length-set}
use Rattle.ref_process.proofs.VacantPlaces.{fewer, held_now, buried_after}
use Rattle.ref_process.proofs.places.Places.bury.Goals as goal

pub overflow_add-round : goal.overflow_add-round
overflow_add-round g c =
    let held = held_now c.self.inside.places.items c.args.key (rw c.self.view_is c.requires) in
    let below = c.self.invariant.0.rounds c.args.key.place held.0 in
    grind (arith, below, held.1)

pub push_reserved-requires : goal.push_reserved-requires
push_reserved-requires g c =
    let held = held_now c.self.inside.places.items c.args.key (rw c.self.view_is c.requires) in
    let few = fewer c.self.inside.places.items c.self.inside.free.items c.self.invariant.0 c.args.key.place held.0 in
    omega (arith, few, c.self.inside.free.ok.0)

pub invariant_of-self : goal.invariant_of-self
invariant_of-self g c =
    let held = held_now c.self.inside.places.items c.args.key (rw c.self.view_is c.requires) in (
      buried_after c.self.inside.places.items c.self.inside.free.items c.self.invariant.0 c.push_reserved.new.self.items
          c.args.key.place _ held.0 refl c.if-round-lt4294967295.true c.push_reserved.ensures.items,
      simp length-set (omega (arith, c.self.invariant.1, c.push_reserved.ensures.capacity)),
    )
