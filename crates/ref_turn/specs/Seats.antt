-- What a call says of the views of seats.
use Rattle.std.specs.Prelude.{◌≡◌, ℕ, ◌+◌, ◌-◌, ◌^◌, ◌<◌, ◌≤◌, List, [], ◌∷◌, ◌++◌, length, Some}
use Rattle.ref_turn.specs.declared.history.Entry.{Entry}
use Rattle.ref_turn.specs.declared.history.View.{View}
use Rattle.ref_turn.specs.History.{calls_by, StartsWith, Reaches, IsLegalLog}

module _ {S R : Type 0} where
  -- the entry of a call
  abbrev pub entry : ℕ → S → R → Entry S R
  entry number step reply = record { by = number; step = step; reply = reply }

module _ {M S R : Type 0} where
  -- both views are of one seat of one turn
  abbrev pub IsSame : View M S R → View M S R → Type 0
  IsSame v w = (w.number ≡ v.number) × (w.first ≡ v.first) × (w.start ≡ v.start)

  -- the seat has seen at least as much, and made no call
  abbrev pub Longer : View M S R → View M S R → Type 0
  Longer v w = IsSame v w × StartsWith w.seen v.seen × (w.mine ≡ v.mine)

  -- the seat has seen at least as much and then its one new call, which is the last of its own
  abbrev pub Extends : View M S R → Entry S R → View M S R → Type 0
  Extends v e w =
      IsSame v w
      × ((between : List (Entry S R)) × (w.seen ≡ (v.seen ++ between) ++ e ∷ []))
      × (w.mine ≡ v.mine ++ e ∷ [])

  -- what it has seen is legal, and its own calls are all that stand there under its number
  abbrev pub IsHistory : {X : Type 0} → (M → X → Type 0) → (X → S → R → X → Type 0) → View M S R → Type 0
  IsHistory stands_for steps_to w = IsLegalLog stands_for steps_to w.start w.seen × (calls_by w.number w.seen ≡ w.mine)

  -- a machine stands for a state after some history that begins with what was seen, has no further own call, and has
  -- no more calls than there are tickets
  abbrev pub EndsAs : {X : Type 0} → (M → X → Type 0) → (X → S → R → X → Type 0) → View M S R → M → Type 0
  EndsAs stands_for steps_to v m =
      (log : List (Entry S R))
      × StartsWith log v.seen
      × (calls_by v.number log ≡ v.mine)
      × Reaches stands_for steps_to v.start log m
      × (v.first + length log < 2 ^ 64)

  -- the seat looked at the ended turns in this call, and more tickets were drawn than turns had ended, but not the last
  abbrev pub SawBusy : View M S R → View M S R → Type 0
  SawBusy v w = (v.looks < w.looks) × (w.first + length w.seen < w.drawn) × (w.drawn < 2 ^ 64 - 1)

  -- had the seat looked once more as it all ended, it would know w: it made no further call, and a ticket that was
  -- drawn had not come yet
  abbrev pub IsLeftOpen : {X : Type 0} → (M → X → Type 0) → (X → S → R → X → Type 0) → View M S R → Type 0
  IsLeftOpen stands_for steps_to v =
      (w : View M S R)
      × Longer v w
      × IsHistory stands_for steps_to w
      × (v.looks < w.looks)
      × (v.drawn ≤ w.drawn)
      × (w.first + length w.seen < w.drawn)
      × (w.drawn < 2 ^ 64)

  -- w is of a new seat, cut off one that has seen what v has
  abbrev pub Begins : View M S R → View M S R → Type 0
  Begins v w =
      (v.number < w.number)
      × (w.first ≡ v.first)
      × (w.start ≡ v.start)
      × (w.seen ≡ v.seen)
      × (w.mine ≡ [])
      × (calls_by w.number w.seen ≡ [])

  -- the first seat of a turn over the machine m, whose first ticket is n
  abbrev pub IsFirst : ℕ → M → View M S R → Type 0
  IsFirst n m v = (v.number ≡ 0) × (v.first ≡ n) × (v.start ≡ Some m) × (v.seen ≡ []) × (v.mine ≡ [])
