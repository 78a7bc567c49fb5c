use Rattle.ref_share.proofs.Common.{ℕ, IsHeapSeat, heap_view}
use Rattle.ref_share.specs.Cycles.{HasMore}
use Rattle.ref_share.specs.Repeats.{Repeats}
use Rattle.ref_share.proofs.cycles.phase.Given as goal

-- so many rounds were made, and more is to come
abbrev pub invariant-loop : goal.invariant-loop
invariant-loop g l = record {
  seat : IsHeapSeat l.heap l.seat;
  rounds : (count : ℕ) × Repeats (HasMore l.work l.end) count (heap_view l.fn.seat) (heap_view l.seat);
}
