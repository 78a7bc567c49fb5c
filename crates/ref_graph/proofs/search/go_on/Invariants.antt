use Rattle.ref_base.proofs.Common.{◌≡◌, ◌-◌, length, take, IsSearched}
use Rattle.ref_graph.specs.AllowedReferents.{allowed}
use Rattle.ref_base.proofs.SearchLaws.{work_left}
use Rattle.ref_graph.proofs.search.go_on.Given as goal

abbrev pub invariant-loop-next : goal.invariant-loop-next
invariant-loop-next g l = record {
  searched : IsSearched (allowed l.allow) l.graph l.seen l.closed l.next;
  kept : take (length l.initial.seen) l.seen ≡ l.initial.seen;
}

-- what it has seen and not gone on from, and what it hasn't seen
abbrev pub decreases-loop-next : goal.decreases-loop-next
decreases-loop-next g l = work_left l.graph l.seen - l.next
