-- What the calls of a shared queue answer, as calls that its seat has made (this project's profile).
use Rattle.std.specs.Prelude.{◌≡◌, ℕ, suc, ◌-◌, ◌^◌, ◌<◌, Bool, true, false, List, [], ◌∷◌, ◌++◌, replicate}
use Rattle.std.specs.Prelude.{Result, Ok, Err, Option, Some, None, length, map}
use Rattle.ref_base.specs.declared.fault.Fault.{Fault}
use Rattle.ref_base.specs.declared.fault.Fault.TheVariants.{WrongQueue, NoMemory, TurnsSpent, BadConfig}
use Rattle.ref_base.specs.Outs.{Outs}
use Rattle.ref_base.specs.Refusals.{fits}
use Rattle.ref_base.specs.HeapSteps.{HeldNotice}
use Rattle.ref_queue.specs.declared.queue.Put.{Put}
use Rattle.ref_queue.specs.declared.queue.Put.TheVariants as puts
use Rattle.ref_queue.specs.declared.queue.Polled.{Polled as Answer}
use Rattle.ref_queue.specs.declared.queue.Polled.TheVariants as answers
use Rattle.ref_queue.specs.declared.queue.PolledBatch.{PolledBatch}
use Rattle.ref_queue.specs.declared.queue.PolledBatch.TheVariants as some
use Rattle.ref_turn.specs.Seats.{entry}
use Rattle.ref_turn.specs.declared.turn.TurnFault.{TurnFault}
use Rattle.ref_turn.specs.declared.turn.TurnFault.TheVariants as turns
use Rattle.ref_share.specs.QueueMachines.{reported_object}
use Rattle.ref_share.specs.QueueSeats.{QueueView, QueueEntry}
use Rattle.ref_share.specs.SeatCalls.{Called, Made, RanOut, FoundBusy}
use Rattle.ref_share.specs.declared.answers.Polled.{Polled}
use Rattle.ref_share.specs.declared.answers.Polled.TheVariants.{Took, Empty, Closed, TimedOut}
use Rattle.ref_share.specs.declared.answers.ShareFault.{ShareFault}
use Rattle.ref_share.specs.declared.answers.ShareFault.TheVariants.{Refused, Busy, Notice}
use Rattle.ref_share.specs.QueueStates.{QueueCall, QueueAnswer}
use Rattle.ref_share.specs.declared.queue_machine.QueueStep.TheVariants as steps
use Rattle.ref_share.specs.declared.queue_machine.QueueReply.TheVariants as replies

-- whether the step that was not made takes a batch along
abbrev pub has_batch : TurnFault QueueCall → Bool
has_batch (turns.Busy (steps.PutBatch batch)) = true
has_batch (turns.Busy (steps.PollBatch max batch)) = true
has_batch (turns.Spent (steps.PutBatch batch)) = true
has_batch (turns.Spent (steps.PollBatch max batch)) = true
has_batch fault = false

-- why a step was not made, with the notice that it took along
abbrev pub IsUnmade : TurnFault QueueCall → ShareFault → Type 0
IsUnmade (turns.Busy (steps.Put notice)) fault = fault ≡ Notice notice TurnsSpent
IsUnmade (turns.Busy step) fault = fault ≡ Busy
IsUnmade (turns.Spent (steps.Put notice)) fault = fault ≡ Notice notice TurnsSpent
IsUnmade (turns.Spent step) fault = fault ≡ Refused TurnsSpent

-- why a step with a batch was not made, and the batch
abbrev pub IsBatchUnmade : TurnFault QueueCall → Result PolledBatch ShareFault → List HeldNotice → Type 0
IsBatchUnmade (turns.Busy (steps.PutBatch batch)) result left = (result ≡ Err Busy) × (left ≡ batch)
IsBatchUnmade (turns.Busy (steps.PollBatch max batch)) result left = (result ≡ Err Busy) × (left ≡ batch)
IsBatchUnmade (turns.Spent (steps.PutBatch batch)) result left =
    (result ≡ Err (Refused TurnsSpent)) × (left ≡ batch)
IsBatchUnmade (turns.Spent (steps.PollBatch max batch)) result left =
    (result ≡ Err (Refused TurnsSpent)) × (left ≡ batch)
IsBatchUnmade fault result left = ⊥

-- what a turn may answer to a poll
abbrev pub IsPollAnswer : Result QueueAnswer (TurnFault QueueCall) → Type 0
IsPollAnswer (Ok (replies.Polled answer)) = Unit {0}
IsPollAnswer (Ok reply) = ⊥
IsPollAnswer (Err fault) = has_batch fault ≡ false

-- that, told as the answer of a shared queue
abbrev pub TellsPoll : Result QueueAnswer (TurnFault QueueCall) → Result Polled ShareFault → Type 0
TellsPoll (Ok (replies.Polled (answers.Took notice))) told = told ≡ Ok (Took notice)
TellsPoll (Ok (replies.Polled answers.Empty)) told = told ≡ Ok Empty
TellsPoll (Ok (replies.Polled answers.Closed)) told = told ≡ Ok Closed
TellsPoll (Ok reply) told = ⊥
TellsPoll (Err fault) told = (why : ShareFault) × (told ≡ Err why) × IsUnmade fault why

-- the faults with which a put is refused
abbrev pub refuses_put : Fault → Bool
refuses_put WrongQueue = true
refuses_put NoMemory = true
refuses_put TurnsSpent = true
refuses_put fault = false

-- a notice that was not put in comes back
abbrev pub ComesBack : HeldNotice → Result (Put HeldNotice) (Fault × HeldNotice) → Type 0
ComesBack notice (Ok (puts.Added position)) = Unit {0}
ComesBack notice (Ok (puts.Already back)) = back ≡ notice
ComesBack notice (Ok (puts.Closed back)) = back ≡ notice
ComesBack notice (Err refused) = refused.1 ≡ notice

-- what a poll into a batch took stands in it, behind what stood there; nothing else does
abbrev pub HoldsTaken : List HeldNotice → Result PolledBatch ShareFault → List HeldNotice → Type 0
HoldsTaken batch (Ok (some.Took numbers)) left =
    (taken : List HeldNotice) × (numbers ≡ map reported_object taken) × (left ≡ batch ++ taken)
HoldsTaken batch result left = left ≡ batch

module _ (v : QueueView) where
  -- the entry of a poll of this seat, answered so
  abbrev pub polled : Answer HeldNotice → QueueEntry
  polled answer = entry v.number steps.Poll (replies.Polled answer)

  -- polls of this seat, count of them, which found nothing
  abbrev pub empty_polls : ℕ → List QueueEntry
  empty_polls count = replicate count (polled answers.Empty)

  -- a put is one call, and answers as it does; or no turn is left, and the notice comes back
  abbrev pub PutsNotice : HeldNotice → Result (Put HeldNotice) (Fault × HeldNotice) → QueueView → Type 0
  PutsNotice notice (Err (TurnsSpent, back)) w = (back ≡ notice) × RanOut v w
  PutsNotice notice answer w = Called v (steps.Put notice) (replies.Put answer) w

  -- a put of a batch is one call, and answers as it does, with what is left in the batch; or no turn is left, and the
  -- batch comes back as it was
  abbrev pub PutsBatch : List HeldNotice → Result Outs Fault → List HeldNotice → QueueView → Type 0
  PutsBatch batch (Err TurnsSpent) left w = (left ≡ batch) × RanOut v w
  PutsBatch batch answer left w = Called v (steps.PutBatch batch) (replies.PutBatch answer left) w

  -- one poll into a batch is one call, and answers as it does, with the batch; or it was refused for want of room in
  -- the batch; or none was made, since the turn was not free, or none is left
  abbrev pub PollsBatchNow : (max : ℕ) → List HeldNotice → Result PolledBatch ShareFault → List HeldNotice → QueueView
      → Type 0
  PollsBatchNow max batch (Ok answer) left w =
      (fits max (length batch) ≡ true)
      × Called v (steps.PollBatch max batch) (replies.PolledBatch (Ok answer) left) w
  PollsBatchNow max batch (Err Busy) left w = FoundBusy v w
  PollsBatchNow max batch (Err (Refused TurnsSpent)) left w = RanOut v w
  PollsBatchNow max batch (Err (Refused BadConfig)) left w =
      (fits max (length batch) ≡ false)
      × Called v (steps.PollBatch max batch) (replies.PolledBatch (Err BadConfig) left) w
  PollsBatchNow max batch result left w = ⊥

  -- one poll is one call, and answers as it does; or none was made, since the turn was not free, or none is left
  abbrev pub PollsNow : Result Polled ShareFault → QueueView → Type 0
  PollsNow (Ok (Took notice)) w = Called v steps.Poll (replies.Polled (answers.Took notice)) w
  PollsNow (Ok Empty) w = Called v steps.Poll (replies.Polled answers.Empty) w
  PollsNow (Ok Closed) w = Called v steps.Poll (replies.Polled answers.Closed) w
  PollsNow (Err Busy) w = FoundBusy v w
  PollsNow (Err (Refused TurnsSpent)) w = RanOut v w
  PollsNow answer w = ⊥

  -- one poll that waits for its turn, where none is the answer that nothing stood
  abbrev pub PollsOnce : Option (Result Polled ShareFault) → QueueView → Type 0
  PollsOnce None w = Called v steps.Poll (replies.Polled answers.Empty) w
  PollsOnce (Some (Ok (Took notice))) w = Called v steps.Poll (replies.Polled (answers.Took notice)) w
  PollsOnce (Some (Ok Closed)) w = Called v steps.Poll (replies.Polled answers.Closed) w
  PollsOnce (Some (Err (Refused TurnsSpent))) w = RanOut v w
  PollsOnce answer w = ⊥

  -- after fewer empty polls than the limit, if there is one, the last answer; or all were empty; or no turn is left
  abbrev pub PollsTo : (ℕ → Type 0) → (QueueView → Type 0) → Result Polled ShareFault → QueueView → Type 0
  PollsTo MayGo TimesOut (Ok (Took notice)) w =
      (k : ℕ) × MayGo k × Made v (empty_polls k ++ polled (answers.Took notice) ∷ []) w
  PollsTo MayGo TimesOut (Ok Closed) w = (k : ℕ) × MayGo k × Made v (empty_polls k ++ polled answers.Closed ∷ []) w
  PollsTo MayGo TimesOut (Ok TimedOut) w = TimesOut w
  PollsTo MayGo TimesOut (Err (Refused TurnsSpent)) w =
      (k : ℕ) × MayGo k × Made v (empty_polls k) w × (w.drawn ≡ 2 ^ 64 - 1)
  PollsTo MayGo TimesOut answer w = ⊥

  -- up to so many polls, all of them empty but perhaps the last
  abbrev pub PollsWithin : ℕ → Result Polled ShareFault → QueueView → Type 0
  PollsWithin polls = PollsTo (λ k. k < polls) (λ w. Made v (empty_polls polls) w)

  -- polls, all of them empty but the last
  abbrev pub PollsUntil : Result Polled ShareFault → QueueView → Type 0
  PollsUntil = PollsTo (λ k. Unit {0}) (λ w. ⊥)

  -- polls, all of them empty but perhaps the last
  abbrev pub PollsAWhile : Result Polled ShareFault → QueueView → Type 0
  PollsAWhile = PollsTo (λ k. Unit {0}) (λ w. (k : ℕ) × Made v (empty_polls (suc k)) w)

  -- a close is one call, and tells whether the queue was open; or no turn is left
  abbrev pub ClosesQueue : Result Bool ShareFault → QueueView → Type 0
  ClosesQueue (Ok was_open) w = Called v steps.Close (replies.Closed was_open) w
  ClosesQueue (Err (Refused TurnsSpent)) w = RanOut v w
  ClosesQueue answer w = ⊥
