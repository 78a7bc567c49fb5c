use Rattle.std.proofs.Common.{◌≡◌}
use Rattle.ref_graph.proofs.NumberPlaceLemmas.{AreNearBelow}
use Rattle.ref_graph.proofs.number_list.near_numbers.Given as goal

abbrev pub invariant-loop-entry : goal.invariant-loop-entry
invariant-loop-entry g l = (l.number ≡ l.entry-index) × AreNearBelow l.near l.entry-index l.listed.items
