-- The seats of a stress run's threads (this project's own).
use Rattle.std.specs.Prelude.{◌≡◌, ℕ}
use denote.Param.Members.{Mut}
use Rattle.ref_share.specs.HeapSeats.{IsHeapSeat}
use Rattle.ref_share.specs.QueueSeats.{IsQueueSeat}
use Rattle.refrun.specs.CleaningSeats.{IsCleanSeated}
use Rattle.refrun.specs.declared.station.Shared.{Shared}
use Rattle.refrun.specs.declared.station.Station.{Station}
use Rattle.refrun.specs.declared.threads.task.Task.{Task}
use Rattle.refrun.specs.declared.threads.task.Left.{Left}

-- a thread's seats are those of the heap and the queue that it works with
abbrev pub IsSeated : Station → Type 0
IsSeated s = IsHeapSeat s.shared.now.heap s.heap_seat × IsQueueSeat s.shared.now.queue s.queue_seat

-- a thread works with the same heap and queue as before, in its seats
abbrev pub StaysSeated : Station → Station → Type 0
StaysSeated old new = (new.shared ≡ old.shared) × IsSeated new

-- what a thread leaves are seats of these
abbrev pub IsLeftAt : Shared → Left → Type 0
IsLeftAt shared left = IsHeapSeat shared.heap left.heap_seat × IsQueueSeat shared.queue left.queue_seat

module _ {X : Type 0} {F : X → Type 0} {g : Mut ((x : X) × F x) (ℕ × Unit {0}) ℕ} where
  -- what a thread is given are seats of these, and of the jobs' heap and cleaner that it works with
  abbrev pub IsSeatedAt : Shared → Task X F g → Type 0
  IsSeatedAt shared task =
      IsHeapSeat shared.heap task.heap_seat × IsQueueSeat shared.queue task.queue_seat × IsCleanSeated task.cleaning
