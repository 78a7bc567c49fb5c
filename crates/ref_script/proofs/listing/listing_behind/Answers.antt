use Rattle.ref_script.proofs.Common.{arith}
use Rattle.ref_script.proofs.FaultLaws.{graph_without_fault}
use Rattle.ref_script.proofs.ListingLemmas.{declares_graph}
use Rattle.ref_script.proofs.listing.listing_behind.Goals as goal

pub returns-clause-prints : goal.returns-clause-prints
returns-clause-prints g c = grind (arith, declares_graph)

pub returns-clause-sound : goal.returns-clause-sound
returns-clause-sound g c = grind (arith, graph_without_fault, declares_graph)
