use Rattle.std.proofs.Common.{not, ◌||◌}
use Rattle.ref_base.proofs.Common.{numbers}
use Rattle.ref_judge.specs.MarkEnding.{to_walk, dooms, leads_out}
use Rattle.ref_judge.proofs.ObjectWalks.{HaveAllPassed}
use Rattle.ref_judge.proofs.survivors.are_edges_spared.Given as goal

-- what was passed leads to nothing doomed
abbrev pub invariant-loop-next : goal.invariant-loop-next
invariant-loop-next g l =
    HaveAllPassed (numbers l.fn.objects.heap.objects)
    (λ n. dooms l.fn.end l.fn.objects.tags n || not (leads_out l.fn.end l.fn.objects n)) l.next

abbrev pub decreases-loop-next : goal.decreases-loop-next
decreases-loop-next g l = to_walk l.next
