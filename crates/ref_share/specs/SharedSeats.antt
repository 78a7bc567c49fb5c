-- The seats of a machine that threads share (this project's profile).
use Rattle.std.specs.Prelude.{ℕ}
use Rattle.ref_share.specs.StartedSeats.{IsSeatFrom, IsFirstFrom}
use Rattle.ref_share.specs.declared.shared.SeatFor.{SeatFor}
use Rattle.ref_share.specs.declared.shared.Shared.{Shared}

module _ {M A S R F X : Type 0} (stands_for : M → X → Type 0) (steps_to : X → S → R → X → Type 0) (first_state : F → X)
    (shared : Shared M A S R F) where
  -- the seat is one of it, and what it has seen is a run of the machine from its first state
  abbrev pub IsSeatIn : SeatFor M S R F → Type 0
  IsSeatIn s = IsSeatFrom stands_for steps_to shared.turn (first_state shared.frame) s.seat

  -- the value was just made, its tickets beginning so, with its first seat
  abbrev pub IsFirstIn : ℕ → SeatFor M S R F → Type 0
  IsFirstIn first s = IsFirstFrom stands_for steps_to shared.turn (first_state shared.frame) first s.seat
