use Rattle.ref_space.proofs.Common.{◌∙◌}
use Rattle.ref_space.proofs.BroughtLemmas.{some_is_left}
use Rattle.ref_space.proofs.table.Table.has_left.Goals as goal

pub returns : goal.returns
returns g c = c.has_left.ensures ∙ some_is_left c.self.invariant c.self.view_is
