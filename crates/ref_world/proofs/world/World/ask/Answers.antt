use Rattle.ref_world.proofs.Common.{Ok, refl}
use Rattle.ref_world.proofs.AskedRows.{as_told, plain_row}
use Rattle.ref_world.proofs.HandSteps.{done}
use Rattle.ref_base.specs.declared.heap_step.HeapStep.TheVariants as heap
use Rattle.ref_base.specs.declared.step.Step.TheVariants as steps
use Rattle.ref_world.proofs.world.World.ask.Goals as goal

pub invariant_of-self : goal.invariant_of-self
invariant_of-self g c =
    (done c.self.invariant c.self.view_is (Ok c.plain_call.result) (steps.Plain c.args.step) _ refl
    (as_told _ (steps.Plain c.args.step) (heap.Plain c.args.step) _ refl c.plain_call.ensures
    (plain_row _ c.args.step))).1

pub returns-clause-row : goal.returns-clause-row
returns-clause-row g c =
    (done c.self.invariant c.self.view_is (Ok c.plain_call.result) (steps.Plain c.args.step) _ refl
    (as_told _ (steps.Plain c.args.step) (heap.Plain c.args.step) _ refl c.plain_call.ensures
    (plain_row _ c.args.step))).0
