use Rattle.core_tests.proofs.HealingCalls.{healing_after_free}
use Rattle.core_tests.proofs.marking.freed.Goals as goal

pub returns : goal.returns
returns c = healing_after_free _ _ _ c.free.ensures.after c.requires
