-- The seats by which a stress run's threads use the jobs' heap and its cleaner (this project's own).
use Rattle.std.specs.Prelude.{◌≡◌, ℕ}
use denote.Param.Members.{Mut}
use Rattle.ref_share.specs.HeapSeats.{IsHeapSeat}
use Rattle.ref_share.specs.QueuedCleaners.{IsQueuedSeat}
use Rattle.refrun.specs.declared.cleaning.Cleaning.{Cleaning}
use Rattle.refrun.specs.declared.cleaning.CleaningSeats.{CleaningSeats}
use Rattle.refrun.specs.declared.cleaning.CleaningStation.{CleaningStation}

module _ {X : Type 0} {F : X → Type 0} {g : Mut ((x : X) × F x) (ℕ × Unit {0}) ℕ} where
  -- the seats are those of this heap and this cleaner
  abbrev pub IsOfCleaning : Cleaning X F g → CleaningSeats X F g → Type 0
  IsOfCleaning c seats = IsHeapSeat c.heap seats.heap × IsQueuedSeat c.cleaner seats.clean

  -- a thread's seats are those of the heap and the cleaner that it works with
  abbrev pub IsCleanSeated : CleaningStation X F g → Type 0
  IsCleanSeated s = IsOfCleaning s.cleaning.now s.seats

  -- a thread works with the same heap and cleaner as before, in its seats
  abbrev pub StaysCleanSeated : CleaningStation X F g → CleaningStation X F g → Type 0
  StaysCleanSeated old new = (new.cleaning ≡ old.cleaning) × IsCleanSeated new
