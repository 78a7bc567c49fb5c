-- What the calls of a heap in its cycles answer and leave, step by step: one table for all of them, by the steps and
-- refusals of the abstract collector.
use Rattle.std.specs.Prelude.{◌≡◌, ℕ, ◌+◌, Bool, true, false, not, List, [], ◌∷◌, length, Option, Some, None}
use Rattle.std.specs.Prelude.{Result, Ok, Err}
use Rattle.ref_base.specs.Graphs.{plain_object}
use Rattle.ref_base.specs.HeapSteps.{NamedStep}
use Rattle.ref_base.specs.Heaps.{Heap, slot_at, nulls, new_reference, stored, with_slot, with_hold, without_hold}
use Rattle.ref_base.specs.Worlds.{first_world, pending_numbers}
use Rattle.ref_base.specs.Collectors.{State, first_state}
use Rattle.ref_base.specs.CollectorRows.{field_in, value_reply}
use Rattle.ref_base.specs.Refusals.{heap_refusal, is_empty}
use Rattle.ref_base.specs.Replay.{adopted}
use Rattle.ref_base.specs.declared.fault.Fault.{Fault}
use Rattle.ref_base.specs.declared.fault.Fault.TheVariants.{MovesLeft}
use Rattle.ref_base.specs.declared.phase.Phase.TheVariants.{Clearing}
use Rattle.ref_base.specs.declared.heap_step.HoldName.{HoldName}
use Rattle.ref_base.specs.declared.heap_step.HeapStep.TheVariants as heap
use Rattle.ref_base.specs.declared.plain_step.PlainStep.TheVariants as plain
use Rattle.ref_base.specs.declared.reply.Reply.{Reply}
use Rattle.ref_base.specs.declared.reply.Reply.TheVariants as replies
use Rattle.ref_objects.specs.Grounds.{unmarked, mint_refusal, choice_in}
use Rattle.ref_space.specs.Worklists.{first_in}
use Rattle.ref_mark.specs.CycleHeaps.{CycleHeap, with_made, loaded, value_got, with_got, with_cleared, reads_same}
use Rattle.ref_mark.specs.CycleHeaps.{cycle_begun, scanned, cycle_in_phase, cycle_brought, moves_begun, next_to_move}
use Rattle.ref_mark.specs.CycleHeaps.{moves_ended}
use Rattle.ref_mark.specs.MarkViews.{ground_of}

-- what is accepted where nothing is refused, and else what becomes of the fault
abbrev pub unless_refused : {T : Type 0} → Option Fault → (Fault → T) → T → T
unless_refused None otherwise accepted = accepted
unless_refused (Some fault) otherwise accepted = otherwise fault

-- ---- how a result is told as a reply

abbrev pub reply_of : {T : Type 0} → (T → Reply) → Result T Fault → Reply
reply_of told (Ok answer) = told answer
reply_of told (Err fault) = replies.Refused fault

-- of a call that gives a hold back where it refuses
abbrev pub reply_or_back : {T : Type 0} → (T → Reply) → Result T (Fault × HoldName) → Reply
reply_or_back told (Ok answer) = told answer
reply_or_back told (Err back) = replies.Refused back.0

abbrev pub done_reply : Unit {0} → Reply
done_reply done = replies.Done

-- a scan of this object, or of none
abbrev pub scan_reply : Option ℕ → Reply
scan_reply None = replies.Nothing
scan_reply (Some n) = replies.Scanned n

-- a move of this object, or of none
abbrev pub moved_reply : Option ℕ → Reply
moved_reply None = replies.Nothing
moved_reply (Some n) = replies.Moved n

-- the end of moves, which waits for those that are still to move
abbrev pub end_move_reply : List ℕ → Reply
end_move_reply [] = replies.Done
end_move_reply (n ∷ ns) = replies.Refused MovesLeft

-- the object of a hold
abbrev pub hold_reply : HoldName → Reply
hold_reply hold = replies.Object hold.object

-- ---- steps

-- the steps that are calls of a heap in its cycles
abbrev pub is_of_marking : NamedStep → Bool
is_of_marking (heap.Unhook m s) = false
is_of_marking (heap.Plain (plain.ClearNext w)) = false
is_of_marking (heap.Plain plain.EndClear) = false
is_of_marking (heap.Hand w) = false
is_of_marking (heap.Hands w max batch) = false
is_of_marking (heap.Plain (plain.Sweep w)) = false
is_of_marking (heap.Plain plain.EndSweep) = false
is_of_marking step = true

-- a state with all that their refusals depend on
abbrev pub refusing_cycle : CycleHeap → State
refusing_cycle k = record (first_state k.heap.config) {
  world = record (first_world k.heap.config) { heap = k.heap; cycle = k.cycle; phase = k.phase };
  next = k.next;
  left = not (is_empty k.grey);
  moved = k.space.has_choice;
}

-- the fault of a step, or none where it is accepted: the abstract collector's own
abbrev pub refusal_in_cycle : CycleHeap → NamedStep → Option Fault
refusal_in_cycle k step = heap_refusal (refusing_cycle k) step

-- what a step that isn't refused answers
abbrev pub reply_in : CycleHeap → NamedStep → Reply
reply_in k (heap.Plain (plain.New m d f)) = replies.Object k.next
reply_in k (heap.Plain (plain.Refer m strength d s q f)) = replies.Object k.next
reply_in k (heap.Plain (plain.Load m d s i)) = value_reply (field_in k.heap (slot_at k.heap m s) i)
reply_in k (heap.Plain (plain.Copy m d s)) = value_reply (slot_at k.heap m s)
reply_in k (heap.Plain (plain.Get m d s)) = value_reply (value_got k m s)
reply_in k (heap.Plain (plain.RefersTo m s v)) = replies.Refers (reads_same k m s v)
reply_in k (heap.Hold m s) = value_reply (slot_at k.heap m s)
reply_in k (heap.Adopt m d hold) = replies.Object hold.object
reply_in k (heap.Plain (plain.Begin now how)) = replies.Cycle (k.cycle + 1)
reply_in k (heap.Plain (plain.Scan w)) = scan_reply (first_in k.grey)
reply_in k (heap.Plain plain.EndMark) = replies.Doomed (length (unmarked k.heap.objects k.marked))
reply_in k (heap.Plain plain.Select) = reply_of replies.Selected (choice_in k.space)
reply_in k (heap.Plain (plain.MoveNext w)) = moved_reply (next_to_move k)
reply_in k (heap.Plain plain.EndMove) = end_move_reply k.space.still_to_move
reply_in k step = replies.Done

-- one more hold of what is there
abbrev pub with_hold_of : Heap → Option ℕ → Heap
with_hold_of h None = h
with_hold_of h (Some n) = with_hold h n

-- and what it leaves
abbrev pub done_in : CycleHeap → NamedStep → CycleHeap
done_in k (heap.Plain (plain.New m d f)) = with_made k m d (plain_object k.next (nulls f))
done_in k (heap.Plain (plain.Refer m strength d s q f)) =
    with_made k m d (new_reference k.heap k.next strength (slot_at k.heap m s) q f)
done_in k (heap.Plain (plain.Store m d i s)) = record k { heap = stored k.heap m d i s }
done_in k (heap.Plain (plain.Load m d s i)) = loaded k m d (field_in k.heap (slot_at k.heap m s) i)
done_in k (heap.Plain (plain.Copy m d s)) = record k { heap = with_slot k.heap m d (slot_at k.heap m s) }
done_in k (heap.Plain (plain.Drop m s)) = record k { heap = with_slot k.heap m s None }
done_in k (heap.Plain (plain.Get m d s)) = with_got k m d s (value_got k m s)
done_in k (heap.Plain (plain.Clear m s)) = with_cleared k m s
done_in k (heap.Hold m s) = record k { heap = with_hold_of k.heap (slot_at k.heap m s) }
done_in k (heap.Adopt m d hold) = record k { heap = adopted k.heap m d hold.object }
done_in k (heap.Release hold) = record k { heap = without_hold k.heap hold.object }
done_in k (heap.Plain (plain.Begin now how)) = cycle_begun k now how
done_in k (heap.Plain (plain.Scan w)) = scanned k w
done_in k (heap.Plain plain.EndMark) = cycle_in_phase k Clearing
done_in k (heap.Plain plain.Select) = moves_begun k
done_in k (heap.Plain (plain.MoveNext w)) = cycle_brought k (next_to_move k)
done_in k (heap.Plain plain.EndMove) = moves_ended k
done_in k step = k

-- the reply to a step, refused or not
abbrev pub answer_in_cycle : CycleHeap → NamedStep → Reply
answer_in_cycle k step = unless_refused (refusal_in_cycle k step) replies.Refused (reply_in k step)

-- the heap after it
abbrev pub after_in_cycle : CycleHeap → NamedStep → CycleHeap
after_in_cycle k step = unless_refused (refusal_in_cycle k step) (λ fault. k) (done_in k step)

-- from the heap as it was, this step, with this reply, leaves this one
pub record MarkerDoes (k : CycleHeap) (step : NamedStep) (reply : Reply) (j : CycleHeap) : Type 0 where
  pub answer : reply ≡ answer_in_cycle k step
  pub after : j ≡ after_in_cycle k step

-- the roots that the layer above has still to shade: as a cycle begins, the pending references
abbrev pub late_roots : State → NamedStep → List ℕ
late_roots a (heap.Plain (plain.Begin now how)) = pending_numbers a.world.pending
late_roots a step = []

-- ---- holds

-- a hold is minted of the object of a number, for the layer above
abbrev pub mint_answer_in : CycleHeap → ℕ → Reply
mint_answer_in k n = unless_refused (mint_refusal (ground_of k) n) replies.Refused (replies.Object n)

-- and what that leaves
abbrev pub after_mint_in : CycleHeap → ℕ → CycleHeap
after_mint_in k n =
    unless_refused (mint_refusal (ground_of k) n) (λ fault. k) (record k { heap = with_hold k.heap n })
