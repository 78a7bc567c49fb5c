-- A queue's machine, one step of it in one turn (this project's profile).
use Rattle.std.specs.Prelude.{◌≡◌, ℕ, true, false, not, length, Ok, Err}
use Rattle.ref_base.specs.HeapSteps.{HeldNotice}
use Rattle.ref_base.specs.Refusals.{fits}
use Rattle.ref_base.specs.declared.fault.Fault.TheVariants.{BadConfig}
use Rattle.ref_share.specs.QueueStates.{NoticeLists, QueueCall, QueueAnswer}
use Rattle.ref_queue.specs.QueueAnswers.{AnswersPut, after_put, AnswersPoll}
use Rattle.ref_queue.specs.QueueBatches.{AnswersBatch, after_batch, left_by, AnswersPolls}
use Rattle.ref_share.specs.declared.queue_machine.QueueStep.TheVariants as steps
use Rattle.ref_share.specs.declared.queue_machine.QueueReply.TheVariants as replies

-- the reference that a notice reports, and the queue that it is for
abbrev pub reported_object : HeldNotice → ℕ
reported_object notice = notice.hold.object

abbrev pub queue_of : HeldNotice → ℕ
queue_of notice = notice.queue

-- the step, with this reply, makes one queue of the other, as the queue's own call does; a poll into a batch without
-- room for so many does nothing
abbrev pub IsQueueTurn : NoticeLists → QueueCall → QueueAnswer → NoticeLists → Type 0
IsQueueTurn q (steps.Put notice) (replies.Put answer) r =
    AnswersPut reported_object queue_of q notice answer × (r ≡ after_put reported_object queue_of q notice answer)
IsQueueTurn q (steps.PutBatch batch) (replies.PutBatch answer left) r =
    AnswersBatch reported_object queue_of q batch answer × (r ≡ after_batch q batch answer)
    × (left ≡ left_by batch answer)
IsQueueTurn q steps.Poll (replies.Polled answer) r = AnswersPoll reported_object q answer r
IsQueueTurn q (steps.PollBatch max batch) (replies.PolledBatch (Ok answer) left) r =
    (fits max (length batch) ≡ true) × AnswersPolls reported_object q max batch answer r left
IsQueueTurn q (steps.PollBatch max batch) (replies.PolledBatch (Err fault) left) r =
    (fits max (length batch) ≡ false) × (fault ≡ BadConfig) × (left ≡ batch) × (r ≡ q)
IsQueueTurn q steps.Close (replies.Closed was_open) r =
    (was_open ≡ not q.closed) × (r ≡ record q { closed = true })
IsQueueTurn q step reply r = ⊥
