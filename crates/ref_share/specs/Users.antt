-- What one thread uses shared things with: each of them beside the thread's own seat of it (this project's profile).
use Rattle.std.specs.Prelude.{◌≡◌, ℕ, Bool, List, length, slice_get, Option, Some, None, Result, Ok, Err}
use Rattle.std.specs.Borrow.{MutBor}
use Rattle.ref_base.specs.declared.fault.Fault.{Fault}
use Rattle.ref_base.specs.declared.reply.Reply.{Reply}
use Rattle.ref_base.specs.declared.reply.Reply.TheVariants as replies
use Rattle.ref_share.specs.CleanSeats.{SharedCleaner, CleanSeat}
use Rattle.ref_share.specs.HeapSeats.{SharedHeap, HeapSeat}
use Rattle.ref_share.specs.QueueSeats.{SharedQueue, QueueSeat, QueueView, IsNewQueue, queue_view}
use Rattle.ref_share.specs.Deliveries.{AreSeats}
use Rattle.ref_share.specs.QueueCalls.{ClosesQueue, PollsOnce, PollsUntil}
use Rattle.ref_base.specs.HeapSteps.{HeldNotice}
use Rattle.ref_share.specs.declared.answers.Polled.{Polled}
use Rattle.ref_share.specs.declared.answers.Polled.TheVariants.{Took}
use Rattle.ref_share.specs.declared.answers.ShareFault.{ShareFault}
use Rattle.ref_share.specs.declared.answers.ShareFault.TheVariants.{Held}
use Rattle.ref_base.specs.declared.heap_step.HoldName.{HoldName}
use Rattle.ref_turn.specs.Seats.{Begins}

-- ---- users

-- a heap, a seat of it, and the number of the mutator that calls it
pub record HeapUse (A : Type 0) : Type 0 where
  pub heap : SharedHeap A
  pub seat : HeapSeat
  pub mutator : ℕ

-- a queue, and a seat of it
pub record QueueUse (A : Type 0) : Type 0 where
  pub queue : SharedQueue A
  pub seat : QueueSeat

-- several queues, and a seat of each
pub record QueuesUse (A : Type 0) : Type 0 where
  pub queues : List (SharedQueue A)
  pub seats : List QueueSeat

-- a cleaner of jobs of this type, and a seat of it
pub record CleanUse (J A : Type 0) : Type 0 where
  pub cleaner : SharedCleaner J A
  pub seat : CleanSeat J

-- ---- typed answers

-- a typed answer as the reply that it stands for
abbrev pub told_as : {T : Type 0} → (T → Reply) → Result T Fault → Result Reply Fault
told_as reply_of (Ok answer) = Ok (reply_of answer)
told_as reply_of (Err fault) = Err fault

-- what a slot then holds
abbrev pub reply_of_found : Option ℕ → Reply
reply_of_found None = replies.Null
reply_of_found (Some n) = replies.Object n

-- that it was done
abbrev pub reply_of_done : Unit {0} → Reply
reply_of_done done = replies.Done

-- a hold that comes back with a fault
abbrev pub held_back : Result (Unit {0}) (Fault × HoldName) → Result (Unit {0}) ShareFault
held_back (Ok done) = Ok done
held_back (Err back) = Err (Held back.1 back.0)

-- ---- several queues

-- the seats are those of the queues, place by place, and there are as many
abbrev pub AreSeated : {A : Type 0} → List (SharedQueue A) → List QueueSeat → Type 0
AreSeated queues seats = AreSeats queues seats × (length seats ≡ length queues)

-- two lists are of one length, and what stands in them is so to each other, place by place
abbrev pub AtEachPlace : {S T : Type 0} → (S → T → Type 0) → List S → List T → Type 0
AtEachPlace {S = S} {T = T} P xs ys =
    (length ys ≡ length xs)
    × ((k : ℕ) (x : S) (y : T) → slice_get xs k ≡ Some x → slice_get ys k ≡ Some y → P x y)

-- the one knows what the other does
abbrev pub KnowsAsMuch : QueueSeat → QueueSeat → Type 0
KnowsAsMuch s t = queue_view t ≡ queue_view s

-- the other begins with what the one has seen
abbrev pub BeginsWith : QueueSeat → QueueSeat → Type 0
BeginsWith s t = Begins (queue_view s) (queue_view t)

-- the other has closed the queue since, or found no turn left
abbrev pub HasClosed : QueueSeat → QueueSeat → Type 0
HasClosed s t = (result : Result Bool ShareFault) × ClosesQueue (queue_view s) result (queue_view t)

-- each queue was just made, its number that of its place, with its first seat
abbrev pub AreNew : {A : Type 0} → List (SharedQueue A) → List QueueSeat → Type 0
AreNew {A = A} queues seats =
    (length seats ≡ length queues)
    × ((k : ℕ) (queue : SharedQueue A) (seat : QueueSeat) → slice_get queues k ≡ Some queue
    → slice_get seats k ≡ Some seat → IsNewQueue queue k 0 seat)

-- ---- notices, one after the other

-- the notice that a poll took, if it took one
abbrev pub notice_of_poll : Result Polled ShareFault → Option HeldNotice
notice_of_poll (Ok (Took notice)) = Some notice
notice_of_poll answer = None

-- what it took where it was made; none where nothing stood
abbrev pub notice_if_polled : Option (Result Polled ShareFault) → Option HeldNotice
notice_if_polled None = None
notice_if_polled (Some answer) = notice_of_poll answer

-- one reference to one user, whose seat alone may have made calls
abbrev pub IsStillTheUser : {A : Type 0} → MutBor (QueueUse A) → MutBor (QueueUse A) → Type 0
IsStillTheUser s t = (t.ghost_name ≡ s.ghost_name) × (t.now ≡ record s.now { seat = t.now.seat })

-- polls until something comes, and what the last took
abbrev pub GivesWaiting : QueueView → Option HeldNotice → QueueView → Type 0
GivesWaiting v given w = (answer : Result Polled ShareFault) × PollsUntil v answer w × (given ≡ notice_of_poll answer)

-- one poll, and what it took
abbrev pub GivesStanding : QueueView → Option HeldNotice → QueueView → Type 0
GivesStanding v given w =
    (answer : Option (Result Polled ShareFault)) × PollsOnce v answer w × (given ≡ notice_if_polled answer)
