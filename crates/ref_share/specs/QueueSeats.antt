-- The seats of a shared queue (this project's profile).
use Rattle.std.specs.Prelude.{◌≡◌, ℕ, List}
use Rattle.ref_base.specs.QueueLists.{new_queue}
use Rattle.ref_turn.specs.History.{Leads}
use Rattle.ref_turn.specs.Turns.{view}
use Rattle.ref_turn.specs.declared.history.Entry.{Entry}
use Rattle.ref_turn.specs.declared.history.View.{View}
use Rattle.ref_share.specs.QueueMachines.{IsQueueTurn}
use Rattle.ref_share.specs.QueueStates.{NoticeLists, QueueCall, QueueAnswer}
use Rattle.ref_share.specs.Selves.{IsItself}
use Rattle.ref_share.specs.SharedSeats.{IsSeatIn}
use Rattle.ref_share.specs.StartedSeats.{IsFirstFrom, IsLeftFrom}
use Rattle.ref_share.specs.declared.shared.SeatFor.{SeatFor}
use Rattle.ref_share.specs.declared.shared.Shared.{Shared}
use Rattle.ref_share.specs.declared.shared_queue.QueueFrame.{QueueFrame}

abbrev pub SharedQueue : Type 0 → Type 0
SharedQueue A = Shared NoticeLists A QueueCall QueueAnswer QueueFrame

abbrev pub QueueSeat : Type 0
QueueSeat = SeatFor NoticeLists QueueCall QueueAnswer QueueFrame

abbrev pub QueueView : Type 0
QueueView = View NoticeLists QueueCall QueueAnswer

-- one call in the history of a queue: the number of the seat that made it, its step and its reply
abbrev pub QueueEntry : Type 0
QueueEntry = Entry QueueCall QueueAnswer

-- what a seat knows
abbrev pub queue_view : QueueSeat → QueueView
queue_view s = view s.seat

-- the calls make this queue of the new queue of the number
abbrev pub IsQueueRun : ℕ → List QueueEntry → NoticeLists → Type 0
IsQueueRun number calls q = Leads IsQueueTurn (new_queue number) calls q

-- the queue that a shared queue began as
abbrev pub queue_start : QueueFrame → NoticeLists
queue_start f = new_queue f.queue

module _ {A : Type 0} (queue : SharedQueue A) where
  -- the seat is one of this queue, and what it has seen is what one queue does, from a new one on
  abbrev pub IsQueueSeat : QueueSeat → Type 0
  IsQueueSeat s = IsSeatIn IsItself IsQueueTurn queue_start queue s

  -- the queue was just made, so, with its first seat
  pub record IsNewQueue (number first : ℕ) (s : QueueSeat) : Type 0 where
    pub number_is : queue.frame.queue ≡ number
    pub seat : IsFirstFrom IsItself IsQueueTurn queue.turn (new_queue number) first s.seat

  -- a history that begins with what was seen leaves the queue
  abbrev pub LeavesQueue : QueueView → NoticeLists → Type 0
  LeavesQueue v q = IsLeftFrom IsItself IsQueueTurn (queue_start queue.frame) v q
