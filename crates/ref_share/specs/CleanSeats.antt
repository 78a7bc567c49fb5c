-- The seats of a shared cleaner, whatever its jobs are (this project's profile).
use Rattle.std.specs.Prelude.{ℕ, List}
use Rattle.ref_base.specs.declared.heap_step.HoldName.{HoldName}
use Rattle.ref_queue.specs.CleanTables.{Registry, new_registry}
use Rattle.ref_turn.specs.History.{Leads}
use Rattle.ref_turn.specs.Turns.{view}
use Rattle.ref_turn.specs.declared.history.Entry.{Entry}
use Rattle.ref_turn.specs.declared.history.View.{View}
use Rattle.ref_share.specs.CleanMachines.{IsCleanTurn}
use Rattle.ref_share.specs.Selves.{IsItself}
use Rattle.ref_share.specs.SharedSeats.{IsSeatIn, IsFirstIn}
use Rattle.ref_share.specs.StartedSeats.{IsLeftFrom}
use Rattle.ref_share.specs.declared.shared.SeatFor.{SeatFor}
use Rattle.ref_share.specs.declared.shared.Shared.{Shared}
use Rattle.ref_share.specs.declared.clean_machine.CleanStep.{CleanStep}
use Rattle.ref_share.specs.declared.clean_machine.CleanReply.{CleanReply}

-- what a cleaner keeps of jobs of this type: beside each a hold of its reference
abbrev pub Jobs : Type 0 → Type 0
Jobs J = Registry HoldName J

abbrev pub SharedCleaner : Type 0 → Type 0 → Type 0
SharedCleaner J A = Shared (Jobs J) A (CleanStep HoldName J) (CleanReply HoldName J) ℕ

abbrev pub CleanSeat : Type 0 → Type 0
CleanSeat J = SeatFor (Jobs J) (CleanStep HoldName J) (CleanReply HoldName J) ℕ

abbrev pub CleanView : Type 0 → Type 0
CleanView J = View (Jobs J) (CleanStep HoldName J) (CleanReply HoldName J)

-- one call in the history of a cleaner: the number of the seat that made it, its step and its reply
abbrev pub CleanEntry : Type 0 → Type 0
CleanEntry J = Entry (CleanStep HoldName J) (CleanReply HoldName J)

-- what a seat knows
abbrev pub clean_view : {J : Type 0} → CleanSeat J → CleanView J
clean_view s = view s.seat

-- the calls make this table of one where nothing is registered
abbrev pub IsCleanRun : {K J : Type 0} → List (Entry (CleanStep K J) (CleanReply K J)) → Registry K J → Type 0
IsCleanRun calls t = Leads IsCleanTurn new_registry calls t

-- the table that a shared cleaner began as
abbrev pub clean_start : {J : Type 0} → ℕ → Jobs J
clean_start queue = new_registry

module _ {J A : Type 0} (cleaner : SharedCleaner J A) where
  -- the seat is one of this cleaner, and what it has seen is what one table does, from an empty one on
  abbrev pub IsCleanSeat : CleanSeat J → Type 0
  IsCleanSeat s = IsSeatIn IsItself IsCleanTurn clean_start cleaner s

  -- the cleaner was just made, its tickets beginning so, with its first seat
  abbrev pub IsFirstCleanSeat : ℕ → CleanSeat J → Type 0
  IsFirstCleanSeat first s = IsFirstIn IsItself IsCleanTurn clean_start cleaner first s

-- a history that begins with what was seen leaves the table
abbrev pub LeavesTable : {J : Type 0} → CleanView J → Jobs J → Type 0
LeavesTable v t = IsLeftFrom IsItself IsCleanTurn new_registry v t
