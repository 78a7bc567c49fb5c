use Rattle.std.proofs.Common.{◌≡◌, true, rules}
use Rattle.ref_base.specs.Refusals.{is_in}
use Rattle.ref_base.specs.declared.phase.Phase.TheVariants.{Marking}
use Rattle.core_tests.proofs.HealingCalls.{healing_after_root}
use Rattle.core_tests.proofs.marking.root_greyed.Goals as goal

pub returns : goal.returns
returns c =
    let marking : is_in c.args.heap.now.phase Marking ≡ true = search rules in
    healing_after_root _ _ _ c.grey_root.ensures marking c.requires
