-- The rule of a turn's table: its two words, its machine and the views of its seats fit one history.
use Rattle.std.specs.Prelude.{◌≡◌, ◌≢◌, ℕ, ◌+◌, ◌^◌, ◌<◌, ◌≤◌, List, [], ◌∷◌, length, Option, Some}
use mathlib.Core.Option.{some}
use mathlib.Core.Option as maybe
use lib.ListN.{get_elem?}
use Rattle.atomic_table.specs.Table.{State}
use Rattle.ref_turn.specs.declared.history.Entry.{Entry}
use Rattle.ref_turn.specs.declared.history.Origin.{Origin}
use Rattle.ref_turn.specs.declared.history.Stage.{Stage}
use Rattle.ref_turn.specs.declared.history.Stage.TheVariants.{Fresh, Idle, Open, Met, Spent}
use Rattle.ref_turn.specs.declared.history.View.{View}
use Rattle.ref_turn.specs.History.{calls_by, StartsWith, Reaches, IsLegalLog}

module _ {S R : Type 0} where
  -- the seat holds the turn
  abbrev pub IsOpen : Stage S R → Type 0
  IsOpen Fresh = ⊥
  IsOpen Idle = ⊥
  IsOpen Open = Unit {0}
  IsOpen (Met k seen mine) = ⊥
  IsOpen Spent = ⊥

module _ {M S R : Type 0} where
  -- no seat holds the turn
  abbrev pub NoneOpen : List (View M S R) → Type 0
  NoneOpen views = (j : ℕ) (v : View M S R) → get_elem? views j ≡ some v → ¬ (IsOpen v.stage)

  -- the seat k was taken in
  abbrev pub IsSpent : List (View M S R) → ℕ → Type 0
  IsSpent views k = (w : View M S R) × (get_elem? views k ≡ some w) × (w.stage ≡ Spent)

  -- its number is its place, and its own calls are those it has
  abbrev pub IsOwnView : List (Entry S R) → ℕ → View M S R → Type 0
  IsOwnView log seat v = (v.number ≡ seat) × (calls_by seat log ≡ v.mine)

  -- what a seat at some stage knows of the history, the words and the other seats
  abbrev pub Knows : List (Entry S R) → ℕ → ℕ → List (View M S R) → ℕ → View M S R → Stage S R → Type 0
  Knows log served tickets views seat v Fresh = (calls_by seat log ≡ []) × (v.mine ≡ []) × (v.number < seat)
  Knows log served tickets views seat v Idle = IsOwnView log seat v
  Knows log served tickets views seat v Open = IsOwnView log seat v × (served < tickets) × (v.seen ≡ log)
  Knows log served tickets views seat v (Met k seen mine) =
      IsOwnView log seat v × StartsWith log seen × (calls_by k log ≡ mine) × IsSpent views k
  Knows log served tickets views seat v Spent = Unit {0}

  -- what is true of each seat
  pub record SeatOk (k : Origin M) (log : List (Entry S R)) (served tickets : ℕ) (views : List (View M S R))
      (seat : ℕ) (v : View M S R) : Type 0 where
    pub first : v.stage ≢ Spent → v.first ≡ k.first
    pub start : v.stage ≢ Spent → v.start ≡ k.start.value
    pub seen : StartsWith log v.seen
    pub drawn : v.drawn ≤ tickets
    pub knows : Knows log served tickets views seat v v.stage

  -- the view of the first seat
  abbrev pub first_view : Origin M → View M S R
  first_view k = record {
    first = k.first;
    start = k.start.value;
    stage = Idle;
    number = 0;
    seen = [];
    mine = [];
    drawn = 0;
    looks = 0;
  }

module _ {M X S R : Type 0} (stands_for : M → X → Type 0) (steps_to : X → S → R → X → Type 0) where
  -- the machine is in its slot, in a state after the history
  abbrev pub IsHome : Origin M → List (Entry S R) → List (maybe.Option (Option M)) → Type 0
  IsHome k log homes = (m : M) × (homes ≡ some (Some m) ∷ []) × Reaches stands_for steps_to k.start.value log m

  -- the rule
  pub record Turned (k : Origin M) (s : State (Option M) (View M S R)) : Type 0 where
    pub log : List (Entry S R)
    pub served : ℕ
    pub tickets : ℕ
    pub words_are : s.words ≡ served ∷ tickets ∷ []
    pub counted : served ≡ k.first + length log
    pub behind : served ≤ tickets
    pub small : tickets < 2 ^ 64
    pub legal : IsLegalLog stands_for steps_to k.start.value log
    pub home : NoneOpen s.views → IsHome k log s.homes
    pub each_seat : (j : ℕ) (v : View M S R) → get_elem? s.views j ≡ some v
        → SeatOk k log served tickets s.views j v
    pub once : (i j : ℕ) (v w : View M S R) → get_elem? s.views i ≡ some v → get_elem? s.views j ≡ some w
        → IsOpen v.stage → IsOpen w.stage → i ≡ j
    pub unmade : (j : ℕ) → length s.views ≤ j → calls_by j log ≡ []
