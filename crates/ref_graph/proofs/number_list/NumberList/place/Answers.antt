use Rattle.std.proofs.Common.{arith}
use Rattle.ref_graph.proofs.NumberPlaceLemmas.{is_some-position}
use Rattle.ref_graph.proofs.number_list.NumberList.place.Goals as goal

pub returns-then-no-ge-NEAR-clause-came : goal.returns-then-no-ge-NEAR-clause-came
returns-then-no-ge-NEAR-clause-came g c = grind (arith, is_some-position)

pub returns-clause-came : goal.returns-clause-came
returns-clause-came g c = grind (arith, is_some-position)
