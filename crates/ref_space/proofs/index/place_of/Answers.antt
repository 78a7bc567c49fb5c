use Rattle.ref_space.proofs.Common.{arith}
use Rattle.ref_space.proofs.PlaceLemmas.{place_found, place_gap, place_other, place_past}
use Rattle.ref_space.proofs.index.place_of.Goals as goal

pub returns-in-Some : goal.returns-in-Some
returns-in-Some c = grind (arith, place_found)

pub returns-in_default : goal.returns-in_default
returns-in_default c = grind (arith, place_gap)

pub returns-in_default-2 : goal.returns-in_default-2
returns-in_default-2 c = grind (arith, place_other)

pub returns-in_default-3 : goal.returns-in_default-3
returns-in_default-3 c = grind (arith, place_past)
