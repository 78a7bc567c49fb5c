-- What the history of a queue puts in and takes, read off its entries alone (this project's profile; Java SE 17
-- `java.lang.ref` for what is enqueued at most once).
use Rattle.std.specs.Prelude.{◌≡◌, ℕ, Bool, true, false, ◌||◌, List, [], ◌∷◌, ◌++◌, map, Ok, nat_eq}
use Rattle.std.specs.List.{IsDistinct}
use Rattle.ref_base.specs.HeapSteps.{HeldNotice}
use Rattle.ref_base.specs.Outs.{outs_of}
use Rattle.ref_base.specs.QueueLists.{enqueued}
use Rattle.ref_base.specs.declared.out.Out.{Out}
use Rattle.ref_base.specs.declared.out.Out.TheVariants as out
use Rattle.ref_queue.specs.declared.queue.Put.TheVariants.{Added}
use Rattle.ref_queue.specs.declared.queue.Polled.TheVariants.{Took}
use Rattle.ref_queue.specs.declared.queue.PolledBatch.TheVariants as some
use Rattle.ref_share.specs.QueueMachines.{reported_object}
use Rattle.ref_share.specs.QueueSeats.{QueueEntry}
use Rattle.ref_share.specs.QueueStates.{NoticeLists, QueueCall, QueueAnswer}
use Rattle.ref_share.specs.declared.queue_machine.QueueStep.TheVariants as steps
use Rattle.ref_share.specs.declared.queue_machine.QueueReply.TheVariants as replies

-- the notice with its position, where this became of it
abbrev pub at_position : HeldNotice → Out → List (HeldNotice × ℕ)
at_position notice (out.Added position) = (notice, position) ∷ []
at_position notice out.Already = []
at_position notice out.Closed = []
at_position notice (out.Refused fault) = []

-- and of several, in order
abbrev pub at_positions : List HeldNotice → List Out → List (HeldNotice × ℕ)
at_positions [] outs = []
at_positions (notice ∷ rest) [] = []
at_positions (notice ∷ rest) (o ∷ outs) = at_position notice o ++ at_positions rest outs

-- the notices that one call puts in, first first, each with the position that is told of it
abbrev pub added_by_call : QueueCall → QueueAnswer → List (HeldNotice × ℕ)
added_by_call (steps.Put notice) (replies.Put (Ok (Added position))) = (notice, position) ∷ []
added_by_call (steps.PutBatch batch) (replies.PutBatch (Ok outs) left) =
    at_positions batch (outs_of outs.before outs.done)
added_by_call step reply = []

-- the references that one call puts in, takes out; whether it closes the queue
abbrev pub put_by_call : QueueCall → QueueAnswer → List ℕ
put_by_call step reply = map (λ added. reported_object added.0) (added_by_call step reply)

abbrev pub taken_by_call : QueueCall → QueueAnswer → List ℕ
taken_by_call steps.Poll (replies.Polled (Took notice)) = reported_object notice ∷ []
taken_by_call (steps.PollBatch max batch) (replies.PolledBatch (Ok (some.Took numbers)) left) = numbers
taken_by_call step reply = []

abbrev pub closed_by_call : QueueCall → QueueAnswer → Bool
closed_by_call steps.Close (replies.Closed was_open) = true
closed_by_call step reply = false

-- the references that the calls put in, and take out, in order; whether one of them closes the queue
abbrev pub all_put_in : List QueueEntry → List ℕ
all_put_in [] = []
all_put_in (call ∷ calls) = put_by_call call.step call.reply ++ all_put_in calls

abbrev pub all_taken_out : List QueueEntry → List ℕ
all_taken_out [] = []
all_taken_out (call ∷ calls) = taken_by_call call.step call.reply ++ all_taken_out calls

abbrev pub is_closed_after : List QueueEntry → Bool
is_closed_after [] = false
is_closed_after (call ∷ calls) = closed_by_call call.step call.reply || is_closed_after calls

-- the lists of the queue that a history leaves are those of its entries, and nothing was put in twice
pub record KeepsLists (calls : List QueueEntry) (last : NoticeLists) : Type 0 where
  pub put_is : enqueued reported_object last ≡ all_put_in calls
  pub taken_is : last.taken ≡ all_taken_out calls
  pub closed_is : last.closed ≡ is_closed_after calls
  pub at_most_once : IsDistinct nat_eq (all_put_in calls)
