use Rattle.core_tests.proofs.HealingCalls.{healing_after_step}
use Rattle.core_tests.proofs.marking.mutated.Goals as goal

pub returns-in-New : goal.returns-in-New
returns-in-New c =
    healing_after_step _ _ _ _ _ c.alloc_obj.ensures c.objects.ensures c.known.ensures c.requires

pub returns-in-Refer : goal.returns-in-Refer
returns-in-Refer c =
    healing_after_step _ _ _ _ _ c.alloc_ref.ensures c.objects.ensures c.known.ensures c.requires

pub returns-in-Store : goal.returns-in-Store
returns-in-Store c =
    healing_after_step _ _ _ _ _ c.store.ensures c.objects.ensures c.known.ensures c.requires

pub returns-in-Load : goal.returns-in-Load
returns-in-Load c =
    healing_after_step _ _ _ _ _ c.load.ensures c.objects.ensures c.known.ensures c.requires
