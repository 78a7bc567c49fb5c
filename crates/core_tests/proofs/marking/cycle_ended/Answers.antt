use Rattle.std.proofs.Common.{◌≡◌, true, sym, ◌∙◌, rules}
use Rattle.ref_base.specs.Refusals.{is_in}
use Rattle.ref_base.specs.declared.phase.Phase.TheVariants.{Sweeping}
use Rattle.core_tests.proofs.HealingCalls.{healed_once_all_is_swept}
use Rattle.core_tests.proofs.marking.cycle_ended.Goals as goal

pub to_idle-requires-clause-healed : goal.to_idle-requires-clause-healed
to_idle-requires-clause-healed c =
    let sweeping : is_in c.args.heap.now.phase Sweeping ≡ true = search rules in
    healed_once_all_is_swept _ _ c.objects.ensures c.known.ensures c.requires sweeping
    (sym c.has_doomed.ensures ∙ c.if-has_doomed.false)
