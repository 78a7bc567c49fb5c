use Rattle.ref_space.proofs.Common.{arith}
use Rattle.ref_space.proofs.EachLemmas.{nulls-each}
use Rattle.ref_space.proofs.cell.Cell.condemn.Goals as goal

pub returns-then-is_condemned-clause-after : goal.returns-then-is_condemned-clause-after
returns-then-is_condemned-clause-after c = grind (arith, nulls-each)
