-- A cleaner with the queue that tells it what is gone, which nobody else polls (this project's profile; Java SE 17
-- `java.lang.ref.Cleaner`, whose queue is its own).
use Rattle.std.specs.Prelude.{◌≡◌}
use Rattle.ref_share.specs.CleanSeats.{IsCleanSeat, IsFirstCleanSeat, clean_view}
use Rattle.ref_share.specs.QueueSeats.{IsNewQueue, IsQueueSeat, queue_view}
use Rattle.ref_turn.specs.Seats.{Begins}
use Rattle.ref_share.specs.SeatCalls.{TookIn}
use Rattle.ref_share.specs.declared.queued_cleaner.QueuedCleaner.{QueuedCleaner}
use Rattle.ref_share.specs.declared.queued_cleaner.QueuedSeat.{QueuedSeat}

module _ {J : Type 0} where
  -- the seat is one of this cleaner, and of its queue
  abbrev pub IsQueuedSeat : QueuedCleaner J → QueuedSeat J → Type 0
  IsQueuedSeat c s = IsCleanSeat c.cleaner s.clean × IsQueueSeat c.queue s.queue

  -- A new cleaner with its queue and its first seat, by which nothing was called: the queue has the number 0, and tells
  -- the cleaner what is gone.
  pub record IsNewQueuedCleaner (c : QueuedCleaner J) (s : QueuedSeat J) : Type 0 where
    pub queue : IsNewQueue c.queue 0 0 s.queue
    pub told_by : c.cleaner.frame ≡ 0
    pub cleaner : IsFirstCleanSeat c.cleaner 0 s.clean

  -- w is a new seat, cut off one that has seen what v has
  abbrev pub BeginsBoth : QueuedSeat J → QueuedSeat J → Type 0
  BeginsBoth v w = Begins (clean_view v.clean) (clean_view w.clean) × Begins (queue_view v.queue) (queue_view w.queue)

  -- the seat has then seen what either had
  abbrev pub TookInBoth : QueuedSeat J → QueuedSeat J → QueuedSeat J → Type 0
  TookInBoth v other w =
      TookIn (clean_view v.clean) (clean_view other.clean) (clean_view w.clean)
      × TookIn (queue_view v.queue) (queue_view other.queue) (queue_view w.queue)
