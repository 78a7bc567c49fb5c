use Rattle.core_tests.proofs.HealingCalls.{healing_after_step}
use Rattle.core_tests.proofs.marking.taken_back.Goals as goal

pub returns : goal.returns
returns c = healing_after_step _ _ _ _ _ c.adopt.ensures.does c.objects.ensures c.known.ensures c.requires
