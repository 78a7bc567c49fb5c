use Rattle.ref_world.proofs.Common.{arith, [], Worker, Core, Ok}
use Rattle.ref_world.proofs.HandRows.{hands_row, free_for_some}
use Rattle.ref_world.proofs.HandSteps.{filled_does}
use Rattle.ref_world.proofs.Refusals.{full_at_hands}
use Rattle.ref_base.specs.declared.heap_step.HeapStep.TheVariants as heap
use Rattle.ref_base.specs.declared.step.Step.TheVariants as steps
use Rattle.ref_world.proofs.InsideHeaps.{hands_inside}
use Rattle.ref_world.proofs.world.World.hand_some.Goals as goal

pub returns-in_err-check_fits-clause-row : goal.returns-in_err-check_fits-clause-row
returns-in_err-check_fits-clause-row g c = grind (arith, full_at_hands)

pub invariant_of-self : goal.invariant_of-self
invariant_of-self g c =
    let old : Core =
    record { heap = c.self.inside.heap; hands = c.self.inside.hands; queues = c.self.inside.queues.items } in
    (filled_does c.self.invariant c.self.view_is (Ok c.hand_on.result) (Worker c.args.worker)
    (steps.Hands c.args.worker c.args.max) (heap.Hands c.args.worker c.args.max [])
    (free_for_some old.hands (Worker c.args.worker) c.args.max c.in_ok-check_fits.ensures).0
    (hands_row old c.args.worker c.args.max) c.hand_on.ensures.hands c.hand_on.ensures.does).1

pub returns-clause-row : goal.returns-clause-row
returns-clause-row g c =
    let old : Core =
    record { heap = c.self.inside.heap; hands = c.self.inside.hands; queues = c.self.inside.queues.items } in
    (filled_does c.self.invariant c.self.view_is (Ok c.hand_on.result) (Worker c.args.worker)
    (steps.Hands c.args.worker c.args.max) (heap.Hands c.args.worker c.args.max [])
    (free_for_some old.hands (Worker c.args.worker) c.args.max c.in_ok-check_fits.ensures).0
    (hands_row old c.args.worker c.args.max) c.hand_on.ensures.hands c.hand_on.ensures.does).0

pub returns-clause-inside : goal.returns-clause-inside
returns-clause-inside g c =
    hands_inside c.self.view_is c.args.worker c.args.max c.in_ok-check_fits.ensures c.hand_on.ensures.does
