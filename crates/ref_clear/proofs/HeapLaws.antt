-- Each step of a heap is a row of the abstract collector, in every phase.
use Rattle.ref_clear.proofs.Common.{arith, ◌≡◌, ℕ, true, false, List, [], Option, Some, None, refl, sym, ap, subst, ◌∙◌}
use Rattle.ref_clear.proofs.Common.{Heap, NamedStep, pending_numbers, State, joined, unless, is_in, is_empty}
use Rattle.ref_clear.proofs.Common.{heap_refusal, HeapAccepts, IsHeapRow, Fault, WrongPhase, Clearing, Urgency, Reply}
use Rattle.ref_clear.proofs.Common.{CycleHeap, cycle_begun, shaded_all, is_of_marking, unless_refused, MarkStands}
use Rattle.ref_clear.proofs.Common.{ClearHeap, with_mark, begun_with, refusal_in, HeapStands, after_in}
use Rattle.ref_base.specs.declared.fault.Fault.TheVariants.{ClearingLeft}
use Rattle.ref_mark.specs.MarkCalls.{late_roots}
use Rattle.ref_clear.specs.ClearCalls.{reply_or_fault, left}
use Rattle.ref_clear.specs.ClearRows.{IsHeapRowOf}
use Rattle.ref_base.proofs.HeapTurns.{row_number}
use Rattle.ref_base.proofs.RowForms.{accepted_row, refused_row}
use Rattle.ref_mark.proofs.MarkLaws.{each_step as each_marking_step, on_own_heap}
use Rattle.ref_clear.proofs.KeptRows.{row_keeps}
use Rattle.ref_clear.proofs.KeptReferences.{after_stays, begun-heap}
use Rattle.ref_clear.proofs.PendingFacts.{waiting_still}
use Rattle.ref_clear.proofs.UnhookRows.{unhook_row}
use Rattle.ref_clear.proofs.HandRows.{hand_row, hands_row}
use Rattle.ref_clear.proofs.LookRows.{look_row}
use Rattle.ref_clear.proofs.EndRows.{end_clear_row, end_sweep_row}
use Rattle.ref_clear.proofs.SweepRows.{sweep_row}
use Rattle.ref_base.specs.declared.heap_step.HeapStep.TheVariants as heap
use Rattle.ref_base.specs.declared.plain_step.PlainStep.TheVariants as plain
use Rattle.ref_base.specs.declared.reply.Reply.TheVariants as replies
use Rattle.ref_mark.specs.MarkCalls as marks

-- the heap that stands for a state has its configuration
pub config_of : (k : CycleHeap) (a : State) → MarkStands k a → a.world.heap.config ≡ k.heap.config
config_of k a stands = ap (λ (h : Heap). h.config) stands.heap

none_late : (refused : Option Fault) (late : List ℕ) → late ≡ []
    → unless_refused refused (λ fault. []) late ≡ []
none_late None late none = none
none_late (Some fault) late none = refl

module _ (c : ClearHeap) (a : State) (stands : HeapStands c a) where
  -- ---- the steps of marking

  -- one that has no late roots
  marking_row : (step : NamedStep) → is_of_marking step ≡ true → late_roots a step ≡ []
      → (b : State) × IsHeapRow a step (marks.answer_in_cycle c.mark step) b
      × HeapStands (with_mark c (marks.after_in_cycle c.mark step)) b
  marking_row step own late =
      let row = each_marking_step c.mark step own a stands.mark in
      let j : CycleHeap = marks.after_in_cycle c.mark step in
      let none = none_late (marks.refusal_in_cycle c.mark step) (late_roots a step) late in
      let after : MarkStands j row.0 = subst (λ ns. MarkStands (shaded_all j ns) row.0) none row.2 in
      let keeps = row_keeps a row.0 step (marks.answer_in_cycle c.mark step) own row.1 in
      let config : j.heap.config ≡ c.mark.heap.config =
      sym (config_of j row.0 after) ∙ keeps.config ∙ config_of c.mark a stands.mark in (
        row.0,
        row.1,
        record {
          mark = after;
          pending = keeps.pending ∙ stands.pending;
          waiting = waiting_still c a stands j config (after_stays c.mark step);
        },
      )

  -- the pending references are the late roots of a begin
  begun_stands : (b : State) (now : ℕ) (how : Urgency) (refused : Option Fault) → b.world.pending ≡ a.world.pending
      → MarkStands
      (shaded_all (unless_refused refused (λ fault. c.mark) (cycle_begun c.mark now how))
      (unless_refused refused (λ fault. []) (pending_numbers a.world.pending))) b
      → HeapStands (unless_refused refused (λ fault. c) (begun_with c now how)) b
  begun_stands b now how None same after = grind (arith, begun-heap)
  begun_stands b now how (Some fault) same after =
      record { mark = after; pending = same ∙ stands.pending; waiting = stands.waiting }

  begin_row : (now : ℕ) (how : Urgency)
      → (b : State) × IsHeapRow a (heap.Plain (plain.Begin now how))
      (marks.answer_in_cycle c.mark (heap.Plain (plain.Begin now how))) b
      × HeapStands (left c (heap.Plain (plain.Begin now how)) (begun_with c now how)) b
  begin_row now how =
      let step : NamedStep = heap.Plain (plain.Begin now how) in
      let row = each_marking_step c.mark step refl a stands.mark in
      let keeps = row_keeps a row.0 step (marks.answer_in_cycle c.mark step) refl row.1 in
      (row.0, row.1, begun_stands row.0 now how (refusal_in c step) keeps.pending row.2)

  -- ---- the other steps

  -- outside clearing it doesn't matter what was found, nor outside a sweep what is doomed
  same_end_clear : unless (is_in a.world.phase Clearing) WrongPhase
      (unless (is_empty (joined a.found)) ClearingLeft None)
      ≡ unless (is_in c.mark.phase Clearing) WrongPhase (unless (is_empty (joined c.mark.found)) ClearingLeft None)
  same_end_clear = grind arith

  own_refusal : (step : NamedStep) → is_of_marking step ≡ false → heap_refusal a step ≡ refusal_in c step
  own_refusal (heap.Unhook m s) own = on_own_heap c.mark a stands.mark (heap.Unhook m s)
  own_refusal (heap.Plain (plain.ClearNext w)) own = grind arith
  own_refusal (heap.Plain plain.EndClear) own = same_end_clear
  own_refusal (heap.Hand w) own = grind arith
  own_refusal (heap.Hands w max batch) own = grind arith
  own_refusal (heap.Plain (plain.Sweep w)) own = grind arith
  own_refusal (heap.Plain plain.EndSweep) own = cc
  own_refusal step own = absurd (cc)

  -- a row by whether it is refused
  row_by : (step : NamedStep) (reply : Reply) (after : ClearHeap) (refused : Option Fault) → is_of_marking step ≡ false
      → refusal_in c step ≡ refused
      → (refusal_in c step ≡ None → (b : State) × HeapAccepts a step reply b × HeapStands after b)
      → (b : State) × IsHeapRow a step (unless_refused refused replies.Refused reply) b
      × HeapStands (unless_refused refused (λ fault. c) after) b
  row_by step reply after None own is accepted = search (accepted_row, own_refusal, accepted is)
  row_by step reply after (Some fault) own is accepted =
      (a, refused_row a step fault (own_refusal step own ∙ is), stands)

  row_of : (step : NamedStep) (reply : Reply) (after : ClearHeap) → is_of_marking step ≡ false
      → (refusal_in c step ≡ None → (b : State) × HeapAccepts a step reply b × HeapStands after b)
      → (b : State) × IsHeapRow a step (reply_or_fault c step reply) b × HeapStands (left c step after) b
  row_of step reply after own accepted = row_by step reply after (refusal_in c step) own refl accepted

pub each_step : (c : ClearHeap) (step : NamedStep) → IsHeapRowOf c step
each_step c (heap.Unhook m s) a stands = row_of c a stands (heap.Unhook m s) _ _ refl (unhook_row c a m s stands)
each_step c (heap.Plain (plain.Begin now how)) a stands = begin_row c a stands now how
each_step c (heap.Plain (plain.ClearNext w)) a stands =
    row_of c a stands (heap.Plain (plain.ClearNext w)) _ _ refl (look_row c a w stands)
each_step c (heap.Plain plain.EndClear) a stands =
    row_of c a stands (heap.Plain plain.EndClear) _ _ refl (end_clear_row c a stands)
each_step c (heap.Hand w) a stands = row_of c a stands (heap.Hand w) _ _ refl (hand_row c a w stands)
each_step c (heap.Hands w max batch) a stands =
    row_of c a stands (heap.Hands w max batch) _ _ refl (hands_row c a w max batch stands)
each_step c (heap.Plain (plain.Sweep w)) a stands =
    row_of c a stands (heap.Plain (plain.Sweep w)) _ _ refl (sweep_row c a w stands)
each_step c (heap.Plain plain.EndSweep) a stands =
    row_of c a stands (heap.Plain plain.EndSweep) _ _ refl (end_sweep_row c a stands)
each_step c step a stands = marking_row c a stands step refl refl

-- ---- numbers

-- the heap that stands for a state has its number
pub stands_number : (c : ClearHeap) (a : State) → HeapStands c a → a.world.heap.no ≡ c.mark.heap.no
stands_number c a stands = ap (λ (h : Heap). h.no) stands.mark.heap

-- which no step changes
pub number_after : (c : ClearHeap) (a : State) (step : NamedStep) → HeapStands c a
    → (after_in c step).mark.heap.no ≡ c.mark.heap.no
number_after c a step stands = grind (arith, row_number, each_step c step a stands)
