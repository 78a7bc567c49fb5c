use Rattle.ref_world.proofs.Common.{arith, Core, heap_no_of, Ok}
use Rattle.ref_world.proofs.HandRows.{release_reply, released_told}
use Rattle.ref_world.proofs.Refusals.{empty_at_release}
use Rattle.ref_world.proofs.HandSteps.{release_does}
use Rattle.ref_world.proofs.InsideHeaps.{release_inside}
use Rattle.ref_world.proofs.world.World.release.Goals as goal

pub returns-in_err-take-clause-row : goal.returns-in_err-take-clause-row
returns-in_err-take-clause-row g c = grind (arith, empty_at_release)

pub told-requires : goal.told-requires
told-requires g c =
    let old : Core =
    record { heap = c.self.inside.heap; hands = c.self.inside.hands; queues = c.self.inside.queues.items } in
    let notice = c.in_ok-take.field-0 in
    let reply =
    release_reply old c.self.invariant.reached c.args.actor notice _ c.into_hold-hold.result _
    c.in_ok-take.ensures.refused c.in_ok-take.ensures.answer c.into_hold-hold.ensures c.apply_heap.ensures.does in
    released_told (heap_no_of old.heap) c.into_hold-hold.result c.apply_heap.result c.apply_heap.ensures.gives reply

pub invariant_of-self : goal.invariant_of-self
invariant_of-self g c = rw c.in_err-take.ensures.kept c.self.invariant

pub invariant_of-self-2 : goal.invariant_of-self-2
invariant_of-self-2 g c =
    (release_does c.self.invariant c.self.view_is (Ok c.told.result) c.args.actor c.in_ok-take.field-0 _
    c.into_hold-hold.result c.in_ok-take.ensures.refused c.in_ok-take.ensures.answer c.into_hold-hold.ensures
    c.told.ensures c.apply_heap.ensures.does c.in_ok-take.ensures.taken).1

pub returns-clause-row : goal.returns-clause-row
returns-clause-row g c =
    (release_does c.self.invariant c.self.view_is (Ok c.told.result) c.args.actor c.in_ok-take.field-0 _
    c.into_hold-hold.result c.in_ok-take.ensures.refused c.in_ok-take.ensures.answer c.into_hold-hold.ensures
    c.told.ensures c.apply_heap.ensures.does c.in_ok-take.ensures.taken).0

pub returns-clause-inside : goal.returns-clause-inside
returns-clause-inside g c =
    release_inside c.self.view_is c.args.actor c.in_ok-take.field-0 _ c.into_hold-hold.result
    c.in_ok-take.ensures.refused c.in_ok-take.ensures.answer c.into_hold-hold.ensures c.told.ensures
    c.apply_heap.ensures.does
