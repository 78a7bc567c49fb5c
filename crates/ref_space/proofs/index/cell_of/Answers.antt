use Rattle.ref_space.proofs.Common.{arith, get_or_read}
use Rattle.ref_space.proofs.PlaceLemmas.{tabled_at-place, IsPlaceOf-lent}
use Rattle.ref_space.proofs.index.cell_of.Goals as goal

pub returns-in-Some : goal.returns-in-Some
returns-in-Some c = grind (arith, IsPlaceOf-lent, get_or_read, tabled_at-place)

pub returns-in-None : goal.returns-in-None
returns-in-None c = grind (arith, tabled_at-place)
