use Rattle.std.proofs.Common.{◌∙◌}
use Rattle.thread_tests.proofs.HeapUses.{left_config}
use Rattle.thread_tests.proofs.uses.heaps.has_its_configuration.Goals as goal

pub returns-in-Ok-finish : goal.returns-in-Ok-finish
returns-in-Ok-finish c =
    let left = c.in-Ok-finish.ensures.ok in
    c.config.ensures ∙ left_config _ _ left.log left.last _ left.run left.stands ∙ c.in-Ok.ensures.made.config_is
