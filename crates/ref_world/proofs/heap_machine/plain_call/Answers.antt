use Rattle.ref_world.proofs.Common.{arith}
use Rattle.ref_world.proofs.HeapSteps.{comparison_changes_nothing}
use Rattle.ref_world.proofs.heap_machine.plain_call.Goals as goal

pub returns-in-RefersTo : goal.returns-in-RefersTo
returns-in-RefersTo g c = grind (arith, comparison_changes_nothing)
