use Rattle.ref_world.proofs.Common.{arith, Worker, Ok}
use Rattle.ref_world.proofs.HandRows.{hand_row}
use Rattle.ref_world.proofs.HandSteps.{filled_does}
use Rattle.ref_world.proofs.Refusals.{full_at_hand}
use Rattle.ref_base.specs.declared.heap_step.HeapStep.TheVariants as heap
use Rattle.ref_base.specs.declared.step.Step.TheVariants as steps
use Rattle.ref_world.proofs.InsideHeaps.{hand_inside}
use Rattle.ref_world.proofs.world.World.hand.Goals as goal

pub returns-in_err-check_empty-clause-row : goal.returns-in_err-check_empty-clause-row
returns-in_err-check_empty-clause-row g c = grind (arith, full_at_hand)

pub invariant_of-self : goal.invariant_of-self
invariant_of-self g c =
    (filled_does c.self.invariant c.self.view_is (Ok c.receive.result) (Worker c.args.worker) (steps.Hand c.args.worker)
    (heap.Hand c.args.worker) c.in_ok-check_empty.ensures (hand_row _ c.args.worker) c.receive.ensures.hands
    c.receive.ensures.does).1

pub returns-clause-row : goal.returns-clause-row
returns-clause-row g c =
    (filled_does c.self.invariant c.self.view_is (Ok c.receive.result) (Worker c.args.worker) (steps.Hand c.args.worker)
    (heap.Hand c.args.worker) c.in_ok-check_empty.ensures (hand_row _ c.args.worker) c.receive.ensures.hands
    c.receive.ensures.does).0

pub returns-clause-inside : goal.returns-clause-inside
returns-clause-inside g c =
    hand_inside c.self.view_is c.args.worker c.in_ok-check_empty.ensures c.receive.ensures.does
