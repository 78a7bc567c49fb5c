use Rattle.ref_space.proofs.Common.{arith}
use Rattle.ref_space.proofs.PlaceLemmas.{near_place}
use Rattle.ref_space.proofs.index.place_near.Goals as goal

pub returns-in-Some : goal.returns-in-Some
returns-in-Some c = grind (arith, near_place c.args.cells.now c.args.index.now c.requires.listed c.args.no c.args.place)
