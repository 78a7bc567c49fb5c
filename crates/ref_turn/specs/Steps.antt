-- What each step on the table tells: of the seat before, the number found, and the seat after.
use Rattle.std.specs.Prelude.{◌≡◌, ◌≢◌, ℕ, ◌+◌, ◌<◌, ◌≤◌, List, [], ◌∷◌, ◌++◌, length, Option, Some, None}
use Rattle.atomic_table.specs.Table.{Me, Step, rest}
use Rattle.ref_turn.specs.declared.history.Entry.{Entry}
use Rattle.ref_turn.specs.declared.history.Stage.{Stage}
use Rattle.ref_turn.specs.declared.history.Stage.TheVariants.{Fresh, Idle, Open, Met, Spent}
use Rattle.ref_turn.specs.declared.history.View.{View}
use Rattle.ref_turn.specs.History.{calls_by, StartsWith, Reaches, IsLegalLog}

abbrev Known : Type 0 → Type 0 → Type 0 → Type 0
Known M S R = Me (Option M) (View M S R)

module _ {S R : Type 0} where
  -- what a history shows the seat of this number of one that it took in: that has another number
  abbrev pub Shows : ℕ → List (Entry S R) → Stage S R → Type 0
  Shows number log Fresh = Unit {0}
  Shows number log Idle = Unit {0}
  Shows number log Open = Unit {0}
  Shows number log (Met k seen mine) = (k ≢ number) × StartsWith log seen × (calls_by k log ≡ mine)
  Shows number log Spent = Unit {0}

module _ {M S R : Type 0} where
  -- the tickets have reached r
  abbrev pub drew : Step (Option M) → Known M S R → ℕ → Known M S R → Type 0
  drew s m r n =
      (m.0.drawn ≤ r) × (m.0.first + length m.0.seen ≤ r) × (n ≡ (record m.0 { stage = Idle; drawn = r }, m.1))

  -- a new seat has a number of its own, under which there is no entry
  abbrev pub named : Step (Option M) → Known M S R → ℕ → Known M S R → Type 0
  named s m r n =
      (m.0.number < n.0.number)
      × (calls_by n.0.number m.0.seen ≡ [])
      × (n ≡ (record m.0 { stage = Idle; number = n.0.number; drawn = r }, m.1))

  -- the turn ended with this entry, and the machine is given back
  abbrev pub gave_back : Option (Entry S R) → Step (Option M) → Known M S R → ℕ → Known M S R → Type 0
  gave_back said s m r n =
      (e : Entry S R) → said ≡ Some e
      → n ≡ (record m.0 { stage = Idle; seen = m.0.seen ++ e ∷ []; mine = m.0.mine ++ e ∷ [] }, rest m.1)

  -- the view of a new seat
  abbrev pub split_view : View M S R → View M S R
  split_view v = record v { stage = Fresh; mine = []; looks = 0 }

  -- the view of a seat that takes another in
  abbrev pub taken_in : View M S R → View M S R → View M S R
  taken_in v w = record v { stage = Met w.number w.seen w.mine }

  -- the view of a seat that was taken in
  abbrev pub spent_view : View M S R
  spent_view = record {
    first = 0;
    start = None;
    stage = Spent;
    number = 0;
    seen = [];
    mine = [];
    drawn = 0;
    looks = 0;
  }

module _ {M X S R : Type 0} (stands_for : M → X → Type 0) (steps_to : X → S → R → X → Type 0) where
  -- r turns have ended: the seat has seen the whole history
  abbrev pub saw : Step (Option M) → Known M S R → ℕ → Known M S R → Type 0
  saw s m r n =
      (r ≡ m.0.first + length n.0.seen)
      × StartsWith n.0.seen m.0.seen
      × IsLegalLog stands_for steps_to m.0.start n.0.seen
      × (calls_by m.0.number n.0.seen ≡ m.0.mine)
      × Shows m.0.number n.0.seen m.0.stage
      × (n ≡ (record m.0 { stage = Idle; seen = n.0.seen; looks = m.0.looks + 1 }, m.1))

  -- the turn was taken where the tickets were as expected, and else they have gone on
  abbrev pub grabbed : Step (Option M) → Known M S R → ℕ → Known M S R → Type 0
  grabbed s m r n =
      (r ≡ s.first
      → (x : M)
      × Reaches stands_for steps_to m.0.start m.0.seen x
      × (n ≡ (record m.0 { stage = Open; drawn = r + 1 }, (0, Some x) ∷ m.1)))
      × (r ≢ s.first → (s.first < r) × (n ≡ (record m.0 { stage = Idle; drawn = r }, m.1)))
