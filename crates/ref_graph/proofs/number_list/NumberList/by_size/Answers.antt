use Rattle.std.proofs.Common.{arith}
use Rattle.ref_graph.proofs.NumberPlaceLemmas.{both_rise, both_came}
use Rattle.ref_graph.proofs.number_list.NumberList.by_size.Goals as goal

pub returns-clause-rising : goal.returns-clause-rising
returns-clause-rising g c =
    rw (c.in_ok-extend_from_slice.ensures.items, c.as_slice-2.ensures.value)
    (both_rise c.self.invariant c.in_ok-listed.listed.items c.in_ok-far.far.items c.min.result (grind arith)
    c.in_ok-listed.ensures.rising c.in_ok-far.ensures.rising
    (rw c.as_slice-near.ensures.value at c.in_ok-listed.ensures.came) (grind arith))

pub returns-clause-same : goal.returns-clause-same
returns-clause-same g c =
    rw (c.in_ok-extend_from_slice.ensures.items, c.as_slice-2.ensures.value, ← c.self.view_is)
    (both_came c.self.invariant c.in_ok-listed.listed.items c.in_ok-far.far.items c.min.result (grind arith)
    c.in_ok-listed.ensures.rising c.in_ok-far.ensures.rising
    (rw c.as_slice-near.ensures.value at c.in_ok-listed.ensures.came) (grind arith))
