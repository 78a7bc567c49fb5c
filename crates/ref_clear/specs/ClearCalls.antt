-- What the calls of a heap answer and leave, step by step. The steps of marking are as they are below; the others are
-- told here.
use Rattle.std.specs.Prelude.{◌≡◌, ℕ, if◌then◌else◌, List, [], ◌∷◌, length, map, min, Option, Some, None, is_some}
use Rattle.ref_base.specs.HeapSteps.{NamedStep, HeldNotice}
use Rattle.ref_base.specs.Heaps.{slot_at, reference_at, registered_in}
use Rattle.ref_base.specs.Worlds.{Notice}
use Rattle.ref_base.specs.Collectors.{State}
use Rattle.ref_base.specs.CollectorRows.{reference_of, referent_of, list_at, one_handed, all_handed}
use Rattle.ref_base.specs.Refusals.{heap_refusal, batch_of}
use Rattle.ref_base.specs.declared.fault.Fault.{Fault}
use Rattle.ref_base.specs.declared.cause.Cause.TheVariants.{Own}
use Rattle.ref_base.specs.declared.heap_step.HeapStep.TheVariants as heap
use Rattle.ref_base.specs.declared.plain_step.PlainStep.TheVariants as plain
use Rattle.ref_base.specs.declared.reply.Reply.{Reply}
use Rattle.ref_base.specs.declared.reply.Reply.TheVariants as replies
use Rattle.ref_mark.specs.CycleHeaps.{is_to_clear, CycleHeap, doomed, cycle_ended, sweep_begun}
use Rattle.ref_mark.specs.MarkCalls as marks
use Rattle.ref_mark.specs.MarkCalls.{unless_refused}
use Rattle.ref_clear.specs.ClearHeaps.{ClearHeap, with_mark, pending_at, begun_with}
use Rattle.ref_clear.specs.ClearHeaps.{looked_from, handed_from, handed_some, unhooked_from, swept_some}
use Rattle.ref_clear.specs.declared.handed.Handed.{Handed}
use Rattle.ref_clear.specs.declared.looked.Looked.{Looked}
use Rattle.ref_clear.specs.declared.looked.Looked.TheVariants as looked

-- ---- how a result is told as a reply

-- of a look at a reference, or at none
abbrev pub looked_reply : Option Looked → Reply
looked_reply None = replies.Nothing
looked_reply (Some (looked.Cleared n)) = replies.Cleared n
looked_reply (Some (looked.Kept n)) = replies.Kept n
looked_reply (Some (looked.Skipped n)) = replies.Skipped n

-- of a notice, or of none
abbrev pub notice_reply : Option HeldNotice → Reply
notice_reply None = replies.Nothing
notice_reply (Some notice) = replies.Notice notice.hold.object notice.queue notice.cause

-- of what this worker handed on at once, or of nothing
abbrev pub handed_reply : ℕ → Option Handed → Reply
handed_reply w None = replies.Nothing
handed_reply w (Some handed) = replies.Notices handed.numbers handed.queue handed.cycle w

-- a notice that is out: it holds its reference in the heap of this number
abbrev pub held_notice : ℕ → Notice → HeldNotice
held_notice heap_no notice = record {
  hold = record { heap_no = heap_no; object = notice.object };
  queue = notice.queue;
  cause = notice.cause;
}

-- and so are several
abbrev pub held_notices : ℕ → List Notice → List HeldNotice
held_notices heap_no notices = map (held_notice heap_no) notices

-- of a sweep of so many, or of none
abbrev pub swept_reply : Option ℕ → Reply
swept_reply None = replies.Nothing
swept_reply (Some count) = replies.Swept count

-- a notice, if one is given, holds its reference in the heap of this number
abbrev pub IsOfHeap : ℕ → Option HeldNotice → Type 0
IsOfHeap heap_no None = Unit {0}
IsOfHeap heap_no (Some notice) = notice.hold.heap_no ≡ heap_no

-- ---- refusals

-- a state with all that refusals depend on
abbrev pub refusing_state : ClearHeap → State
refusing_state c =
    let a = marks.refusing_cycle c.mark in
    record a { world = record a.world { pending = c.pending }; doomed = doomed c.mark; found = c.mark.found }

-- the fault of a step, or none where it is accepted: the abstract collector's own
abbrev pub refusal_in : ClearHeap → NamedStep → Option Fault
refusal_in c step = heap_refusal (refusing_state c) step

-- ---- answers

-- the reference that a worker looks at first is cleared if its referent is doomed, kept if it has another, else skipped
abbrev pub answer_of_look : CycleHeap → List ℕ → Reply
answer_of_look k [] = replies.Nothing
answer_of_look k (n ∷ rest) =
    if is_to_clear k n then replies.Cleared n else
    (if is_some (referent_of (reference_at k.heap n)) then replies.Kept n else replies.Skipped n)

-- an unhook of the reference that the slot holds gives its notice where it is registered
abbrev pub answer_of_unhook : Option ℕ → Option ℕ → Reply
answer_of_unhook None queue = replies.Nothing
answer_of_unhook (Some n) None = replies.Nothing
answer_of_unhook (Some n) (Some q) = replies.Notice n q Own

-- a sweep tells how many it frees of these
abbrev pub answer_of_sweep : List ℕ → Reply
answer_of_sweep [] = replies.Nothing
answer_of_sweep (n ∷ ns) = replies.Swept (min 64 (length (n ∷ ns)))

-- the queue of the reference in the slot, if it is registered
abbrev pub queue_in : CycleHeap → ℕ → ℕ → Option ℕ
queue_in k m s = registered_in (reference_of k.heap (slot_at k.heap m s))

-- ---- steps

-- the reply, or the fault where the step is refused
abbrev pub reply_or_fault : ClearHeap → NamedStep → Reply → Reply
reply_or_fault c step reply = unless_refused (refusal_in c step) replies.Refused reply

-- the heap after the step, or the one before where the step is refused
abbrev pub left : ClearHeap → NamedStep → ClearHeap → ClearHeap
left c step after = unless_refused (refusal_in c step) (λ fault. c) after

-- the reply to a step, refused or not
abbrev pub answer_in : ClearHeap → NamedStep → Reply
answer_in c (heap.Unhook m s) =
    reply_or_fault c (heap.Unhook m s) (answer_of_unhook (slot_at c.mark.heap m s) (queue_in c.mark m s))
answer_in c (heap.Hand w) = reply_or_fault c (heap.Hand w) (one_handed w (pending_at c w))
answer_in c (heap.Hands w max batch) =
    reply_or_fault c (heap.Hands w max batch) (all_handed w (batch_of max (pending_at c w)))
answer_in c (heap.Plain (plain.ClearNext w)) =
    reply_or_fault c (heap.Plain (plain.ClearNext w)) (answer_of_look c.mark (list_at c.mark.found w))
answer_in c (heap.Plain plain.EndClear) = reply_or_fault c (heap.Plain plain.EndClear) replies.Done
answer_in c (heap.Plain (plain.Sweep w)) =
    reply_or_fault c (heap.Plain (plain.Sweep w)) (answer_of_sweep (doomed c.mark))
answer_in c (heap.Plain plain.EndSweep) = reply_or_fault c (heap.Plain plain.EndSweep) replies.Done
answer_in c step = marks.answer_in_cycle c.mark step

-- the heap after it
abbrev pub after_in : ClearHeap → NamedStep → ClearHeap
after_in c (heap.Unhook m s) =
    left c (heap.Unhook m s) (with_mark c (unhooked_from c.mark m s (slot_at c.mark.heap m s) (queue_in c.mark m s)))
after_in c (heap.Hand w) = left c (heap.Hand w) (handed_from c w (pending_at c w))
after_in c (heap.Hands w max batch) =
    left c (heap.Hands w max batch) (handed_some c w (length (batch_of max (pending_at c w))))
after_in c (heap.Plain (plain.Begin now how)) = left c (heap.Plain (plain.Begin now how)) (begun_with c now how)
after_in c (heap.Plain (plain.ClearNext w)) =
    left c (heap.Plain (plain.ClearNext w)) (looked_from c w (list_at c.mark.found w))
after_in c (heap.Plain plain.EndClear) =
    left c (heap.Plain plain.EndClear) (with_mark c (sweep_begun c.mark))
after_in c (heap.Plain (plain.Sweep w)) = left c (heap.Plain (plain.Sweep w)) (with_mark c (swept_some c.mark))
after_in c (heap.Plain plain.EndSweep) =
    left c (heap.Plain plain.EndSweep) (with_mark c (cycle_ended c.mark))
after_in c step = with_mark c (marks.after_in_cycle c.mark step)

-- from the heap as it was, this step, with this reply, leaves this one
pub record HeapDoes (c : ClearHeap) (step : NamedStep) (reply : Reply) (d : ClearHeap) : Type 0 where
  pub answer : reply ≡ answer_in c step
  pub after : d ≡ after_in c step
