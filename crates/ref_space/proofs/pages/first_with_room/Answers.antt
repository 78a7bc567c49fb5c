use Rattle.std.proofs.Common.{arith}
use Rattle.ref_space.proofs.PageLemmas.{none_up_to}
use Rattle.ref_space.proofs.pages.first_with_room.Goals as goal

pub loop-page-preserved : goal.loop-page-preserved
loop-page-preserved c = grind (arith, none_up_to)
