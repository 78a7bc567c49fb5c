use Rattle.ref_world.proofs.Common.{arith, ◌≡◌, None, sym, subst, drop_refusal, Core, heap_no_of, model_heap, Ok}
use Rattle.ref_world.proofs.HandRows.{adopt_reply, adopted_told}
use Rattle.ref_world.proofs.Refusals.{empty_at_adopt}
use Rattle.ref_world.proofs.HandSteps.{adopt_does}
use Rattle.ref_world.proofs.InsideHeaps.{adopt_inside}
use Rattle.ref_world.proofs.world.World.adopt.Goals as goal

pub returns-in_err-take-clause-row : goal.returns-in_err-take-clause-row
returns-in_err-take-clause-row g c = grind (arith, empty_at_adopt)

pub told-requires : goal.told-requires
told-requires g c =
    let old : Core =
    record { heap = c.self.inside.heap; hands = c.self.inside.hands; queues = c.self.inside.queues.items } in
    let slot =
    subst (λ (o : Core). drop_refusal (model_heap o.heap) c.args.mutator c.args.slot ≡ None) (sym c.self.view_is)
    c.in_ok-check_slot.ensures in
    let notice = c.in_ok-take.field-0 in
    let reply =
    adopt_reply old c.self.invariant.reached c.args.mutator c.args.slot notice _ c.into_hold-hold.result _ slot
    c.in_ok-take.ensures.refused c.in_ok-take.ensures.answer c.into_hold-hold.ensures c.apply_heap.ensures.does in
    adopted_told (heap_no_of old.heap) c.args.mutator c.args.slot c.into_hold-hold.result c.apply_heap.result
    notice.object
    c.apply_heap.ensures.gives reply

pub invariant_of-self : goal.invariant_of-self
invariant_of-self g c = rw c.in_err-take.ensures.kept c.self.invariant

pub invariant_of-self-2 : goal.invariant_of-self-2
invariant_of-self-2 g c =
    (adopt_does c.self.invariant c.self.view_is (Ok c.told.result) c.args.mutator c.args.slot c.in_ok-take.field-0 _
    c.into_hold-hold.result c.in_ok-check_slot.ensures c.in_ok-take.ensures.refused c.in_ok-take.ensures.answer
    c.into_hold-hold.ensures c.told.ensures c.apply_heap.ensures.does c.in_ok-take.ensures.taken).1

pub returns-clause-row : goal.returns-clause-row
returns-clause-row g c =
    (adopt_does c.self.invariant c.self.view_is (Ok c.told.result) c.args.mutator c.args.slot c.in_ok-take.field-0 _
    c.into_hold-hold.result c.in_ok-check_slot.ensures c.in_ok-take.ensures.refused c.in_ok-take.ensures.answer
    c.into_hold-hold.ensures c.told.ensures c.apply_heap.ensures.does c.in_ok-take.ensures.taken).0

pub returns-clause-inside : goal.returns-clause-inside
returns-clause-inside g c =
    adopt_inside c.self.view_is c.args.mutator c.args.slot c.in_ok-take.field-0 _ c.into_hold-hold.result
    c.in_ok-check_slot.ensures c.in_ok-take.ensures.refused c.in_ok-take.ensures.answer c.into_hold-hold.ensures
    c.told.ensures c.apply_heap.ensures.does
