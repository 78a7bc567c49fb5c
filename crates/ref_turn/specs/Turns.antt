-- What a call says of a turn and its seats.
use Rattle.std.specs.Prelude.{◌≡◌, [], ◌∷◌, Option, Some}
use Rattle.atomic_table.specs.Table.{Me}
use Rattle.atomic_table.specs.declared.shared.Seat.{Seat}
use Rattle.ref_turn.specs.declared.history.Stage.TheVariants.{Idle, Open}
use Rattle.ref_turn.specs.declared.history.View.{View}
use Rattle.ref_turn.specs.declared.turn.SeatOf.{SeatOf}
use Rattle.ref_turn.specs.declared.turn.Turn.{Turn}
use Rattle.ref_turn.specs.History.{Reaches}
use Rattle.ref_turn.specs.Seats.{IsHistory}

module _ {M S R : Type 0} where
  -- what a seat knows
  abbrev pub view : SeatOf M S R → View M S R
  view s = s.place.me.0

  -- two seats of one turn, or one seat before and after a call
  abbrev pub IsBeside : SeatOf M S R → SeatOf M S R → Type 0
  IsBeside s t = t.place.table_id ≡ s.place.table_id

  -- one place at a table, before and after a step
  abbrev pub IsSamePlace : Seat (Option M) (View M S R) → Seat (Option M) (View M S R) → Type 0
  IsSamePlace p q = (q.table_id ≡ p.table_id) × (q.id ≡ p.id)

  -- the seat holds no turn
  abbrev pub IsIdle : Me (Option M) (View M S R) → Type 0
  IsIdle me = (me.0.stage ≡ Idle) × (me.1 ≡ [])

  -- the seat holds the turn and a machine
  abbrev pub HoldsMachine : Me (Option M) (View M S R) → M → Type 0
  HoldsMachine me m = (me.0.stage ≡ Open) × (me.1 ≡ (0, Some m) ∷ [])

  -- the seat holds the turn, has seen the whole history, and the machine is in a state after that
  abbrev pub HoldsTurn : {X : Type 0} → (M → X → Type 0) → (X → S → R → X → Type 0) → Me (Option M) (View M S R)
      → Type 0
  HoldsTurn stands_for steps_to me =
      IsHistory stands_for steps_to me.0
      × ((m : M) × HoldsMachine me m × Reaches stands_for steps_to me.0.start me.0.seen m)

module _ {M S R F A : Type 0} where
  -- the seat is of this turn
  abbrev pub IsSeatOf : Turn M A S R F → SeatOf M S R → Type 0
  IsSeatOf t s = s.place.table_id ≡ t.table.shared.table_id

  -- the place is at this turn's table
  abbrev pub IsPlaceOf : Turn M A S R F → Seat (Option M) (View M S R) → Type 0
  IsPlaceOf t p = p.table_id ≡ t.table.shared.table_id
