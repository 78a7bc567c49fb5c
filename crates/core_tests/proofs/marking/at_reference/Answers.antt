use Rattle.core_tests.proofs.HealingCalls.{healing_after_step}
use Rattle.core_tests.proofs.marking.at_reference.Goals as goal

pub returns-in-Get : goal.returns-in-Get
returns-in-Get c =
    healing_after_step _ _ _ _ _ c.get.ensures c.objects.ensures c.known.ensures c.requires

pub returns-in-Clear : goal.returns-in-Clear
returns-in-Clear c =
    healing_after_step _ _ _ _ _ c.clear.ensures c.objects.ensures c.known.ensures c.requires
