use Rattle.core_tests.proofs.HealingCalls.{healing_after_mint}
use Rattle.core_tests.proofs.marking.minted.Goals as goal

pub returns : goal.returns
returns c = healing_after_mint _ _ _ c.mint.ensures.after c.requires
