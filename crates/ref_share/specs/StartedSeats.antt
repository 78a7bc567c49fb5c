-- The seats of a turn that began with a machine in a known state (this project's profile).
use Rattle.std.specs.Prelude.{◌≡◌, ℕ, ◌+◌, ◌^◌, ◌<◌, List, [], length, Some}
use Rattle.ref_turn.specs.History.{calls_by, StartsWith, Leads}
use Rattle.ref_turn.specs.Turns.{view, IsSeatOf}
use Rattle.ref_turn.specs.declared.history.Entry.{Entry}
use Rattle.ref_turn.specs.declared.history.View.{View}
use Rattle.ref_turn.specs.declared.turn.Turn.{Turn}
use Rattle.ref_turn.specs.declared.turn.SeatOf.{SeatOf}

module _ {M S R X : Type 0} (stands_for : M → X → Type 0) (steps_to : X → S → R → X → Type 0) where
  -- what a seat has seen is a run of the machine from the state x, and its own calls are all that stand there under its
  -- number
  pub record IsHistoryFrom (x : X) (v : View M S R) : Type 0 where
    pub last : X
    pub run : Leads steps_to x v.seen last
    pub own : calls_by v.number v.seen ≡ v.mine

  -- the seat is of this turn, which began with a machine that stands for x, and what it has seen is a history of it
  pub record IsSeatFrom {A F : Type 0} (t : Turn M A S R F) (x : X) (s : SeatOf M S R) : Type 0 where
    pub turn : IsSeatOf t s
    pub machine : M
    pub start : (view s).start ≡ Some machine
    pub stands : stands_for machine x
    pub history : IsHistoryFrom x (view s)

  -- the seat is the first of a turn whose tickets begin so, and has seen and made nothing
  pub record IsFirstFrom {A F : Type 0} (t : Turn M A S R F) (x : X) (first : ℕ) (s : SeatOf M S R) : Type 0 where
    pub seat : IsSeatFrom t x s
    pub first_is : (view s).first ≡ first
    pub seen : (view s).seen ≡ []
    pub mine : (view s).mine ≡ []

  -- a history that begins with what the seat has seen leaves the machine: it has no further call of this seat, and no
  -- more calls than there are tickets
  pub record IsLeftFrom (x : X) (v : View M S R) (m : M) : Type 0 where
    pub log : List (Entry S R)
    pub begins : StartsWith log v.seen
    pub own : calls_by v.number log ≡ v.mine
    pub turns : v.first + length log < 2 ^ 64
    pub last : X
    pub run : Leads steps_to x log last
    pub stands : stands_for m last
