use Rattle.std.proofs.Common.{◌≡◌, filter, take}
use Rattle.ref_graph.proofs.NumberPlaceLemmas.{is_far}
use Rattle.ref_graph.proofs.number_list.far_numbers.Given as goal

abbrev pub invariant-loop-no : goal.invariant-loop-no
invariant-loop-no g l = l.listed.items ≡ filter is_far (take l.no-index l.numbers)
