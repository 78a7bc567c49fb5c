-- Each step that is a call of a heap in its cycles is a row of the abstract collector.
use Rattle.ref_mark.proofs.Common.{◌≡◌, true, sym, ap, ◌∙◌, [], Option, Some, None, refl, false≢true, Heap, NamedStep}
use Rattle.ref_mark.proofs.Common.{new_refusal, refer_refusal, work_refusal, State, HeapAccepts, on_heap, shown, Fault}
use Rattle.ref_mark.proofs.Common.{Marking, CycleHeap, doomed, shaded_all, refusal_in_cycle, done_in, unless_refused}
use Rattle.ref_mark.proofs.Common.{MarkStands, unsaid, shown_heap, forgotten}
use Rattle.ref_base.specs.Refusals.{heap_refusal}
use Rattle.ref_base.specs.CollectorRows.{IsHeapRow}
use Rattle.ref_mark.specs.MarkCalls.{is_of_marking, reply_in, late_roots}
use Rattle.ref_mark.specs.MarkRows.{IsMarkRowOf}
use Rattle.ref_base.proofs.Forgetting.{forgotten-shape}
use Rattle.ref_base.proofs.Reshaping.{same_refusal}
use Rattle.ref_base.proofs.RowForms.{accepted_row, refused_row}
use Rattle.ref_base.proofs.ShownObjects.{shown-shape}
use Rattle.ref_mark.proofs.ObjectRows.{new_row, refer_row, store_row}
use Rattle.ref_mark.proofs.SlotRows.{copy_row, drop_row, load_row}
use Rattle.ref_mark.proofs.ReferenceRows.{get_row, clear_row, refers_to_row}
use Rattle.ref_mark.proofs.HoldRows.{hold_row, adopt_row, release_row}
use Rattle.ref_mark.proofs.BeginRows.{begin_row}
use Rattle.ref_mark.proofs.ScanRows.{scan_row}
use Rattle.ref_mark.proofs.MarkEndRows.{end_mark_row, same_end_mark}
use Rattle.ref_mark.proofs.MoveRows.{select_row, move_row, end_move_row}
use Rattle.ref_base.specs.declared.fault.Fault.TheVariants.{WrongPhase}
use Rattle.ref_mark.proofs.Common.{Moving, is_in, unless}
use Rattle.ref_base.specs.declared.heap_step.HeapStep.TheVariants as heap
use Rattle.ref_base.specs.declared.plain_step.PlainStep.TheVariants as plain
use Rattle.ref_base.specs.declared.reply.Reply.TheVariants as replies

module _ (k : CycleHeap) (a : State) (stands : MarkStands k a) where
  -- ---- refusals

  -- what is forgotten or reads as cleared changes no refusal
  pub on_own_heap : (step : NamedStep) → heap_refusal a step ≡ heap_refusal (on_heap a k.heap) step
  on_own_heap step =
      sym (same_refusal (λ o. forgotten (unsaid k) o) (forgotten-shape (unsaid k)) a step)
      ∙ ap (λ (h : Heap). heap_refusal (on_heap a h) step) stands.heap
      ∙ same_refusal (λ o. forgotten (unsaid k) o) (forgotten-shape (unsaid k)) (on_heap a (shown_heap k))
      step
      ∙ same_refusal (λ o. shown (doomed k) o) (shown-shape (doomed k)) (on_heap a k.heap) step

  -- and the rest of what it depends on is the heap's
  own_refusal : (step : NamedStep) → is_of_marking step ≡ true
      → heap_refusal (on_heap a k.heap) step ≡ refusal_in_cycle k step
  own_refusal (heap.Plain (plain.New m d f)) own = ap (λ n. new_refusal k.heap n m d f) stands.next
  own_refusal (heap.Plain (plain.Refer m strength d s q f)) own = ap (λ n. refer_refusal k.heap n m d s q f) stands.next
  own_refusal (heap.Plain (plain.Begin now how)) own = cc
  own_refusal (heap.Plain (plain.Scan w)) own = ap (λ p. work_refusal k.heap p Marking w) stands.phase
  own_refusal (heap.Plain plain.EndMark) own = same_end_mark k a stands
  own_refusal (heap.Plain plain.Select) own = cc
  own_refusal (heap.Plain (plain.MoveNext w)) own = ap (λ p. work_refusal k.heap p Moving w) stands.phase
  own_refusal (heap.Plain plain.EndMove) own = ap (λ p. unless (is_in p Moving) WrongPhase None) stands.phase
  own_refusal step own = search (own, refl)

  -- ---- rows

  accepted : (step : NamedStep) → is_of_marking step ≡ true → refusal_in_cycle k step ≡ None
      → (b : State) × HeapAccepts a step (reply_in k step) b
      × MarkStands (shaded_all (done_in k step) (late_roots a step)) b
  accepted (heap.Plain (plain.RefersTo m s v)) own none = refers_to_row k a stands m s v
  accepted (heap.Plain (plain.MoveNext w)) own none = move_row k a w stands none
  accepted step own none =
      search (
        new_row,
        refer_row,
        store_row,
        load_row,
        copy_row,
        drop_row,
        get_row,
        clear_row,
        refers_to_row,
        hold_row,
        adopt_row,
        release_row,
        begin_row,
        scan_row,
        end_mark_row,
        select_row,
        end_move_row,
        false≢true,
        refl,
      )

  row_by : (step : NamedStep) (refused : Option Fault) → is_of_marking step ≡ true → refusal_in_cycle k step ≡ refused
      → (b : State)
      × IsHeapRow a step (unless_refused refused replies.Refused (reply_in k step)) b
      × MarkStands
      (shaded_all (unless_refused refused (λ fault. k) (done_in k step))
      (unless_refused refused (λ fault. []) (late_roots a step))) b
  row_by step None own is = search (on_own_heap, own_refusal, accepted_row, accepted step own is)
  row_by step (Some fault) own is =
      (a, refused_row a step fault (on_own_heap step ∙ own_refusal step own ∙ is), stands)

pub each_step : (k : CycleHeap) (step : NamedStep) → is_of_marking step ≡ true → IsMarkRowOf k step
each_step k step own a stands = row_by k a stands step (refusal_in_cycle k step) own refl
