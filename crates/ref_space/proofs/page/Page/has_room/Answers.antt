use Rattle.std.proofs.Common.{arith}
use Rattle.ref_space.proofs.BitLemmas.{any_set-bits_of}
use Rattle.ref_space.proofs.page.Page.has_room.Goals as goal

pub returns-then-not-self : goal.returns-then-not-self
returns-then-not-self c = grind (arith, any_set-bits_of)
