-- What a call of a seat has made, and why it made nothing.
use Rattle.std.specs.Prelude.{◌≡◌, ◌≢◌, ◌-◌, ◌^◌, List, ◌++◌, Option, Some, None, Result, Ok, Err}
use Rattle.ref_base.specs.declared.fault.Fault.{Fault}
use Rattle.ref_base.specs.declared.fault.Fault.TheVariants.{NoMemory}
use Rattle.ref_turn.specs.History.{calls_by, StartsWith}
use Rattle.ref_turn.specs.Seats.{entry, IsSame, Longer, Extends, SawBusy}
use Rattle.ref_turn.specs.declared.history.Entry.{Entry}
use Rattle.ref_turn.specs.declared.history.View.{View}
use Rattle.ref_turn.specs.declared.turn.TurnFault.{TurnFault}
use Rattle.ref_turn.specs.declared.turn.TurnFault.TheVariants.{Busy, Spent}

module _ {M S R : Type 0} where
  -- one call was made, and it is the last that the seat has seen
  abbrev pub Called : View M S R → S → R → View M S R → Type 0
  Called v step reply w = Extends v (entry v.number step reply) w

  -- these calls were made, in this order
  abbrev pub Made : View M S R → List (Entry S R) → View M S R → Type 0
  Made v calls w = IsSame v w × StartsWith w.seen v.seen × (w.mine ≡ v.mine ++ calls)

  -- no call was made, and none can be: the last ticket was drawn
  abbrev pub RanOut : View M S R → View M S R → Type 0
  RanOut v w = Longer v w × (w.drawn ≡ 2 ^ 64 - 1)

  -- no call was made: another turn was open
  abbrev pub FoundBusy : View M S R → View M S R → Type 0
  FoundBusy v w = Longer v w × SawBusy v w

  -- why a call that does not wait was not made, where the step comes back
  abbrev pub IsTryFault : View M S R → S → TurnFault S → View M S R → Type 0
  IsTryFault v step (Busy back) w = (back ≡ step) × FoundBusy v w
  IsTryFault v step (Spent back) w = (back ≡ step) × RanOut v w

  -- the seat has seen what the other had seen, in which the other's calls stand under its number, which is another
  abbrev pub TookIn : View M S R → View M S R → View M S R → Type 0
  TookIn v other w =
      Longer v w × StartsWith w.seen other.seen × (calls_by other.number w.seen ≡ other.mine)
      × (other.number ≢ v.number)

-- what is made anew is refused with just this fault, if there is one, or where memory isn't there
abbrev pub MakesUnless : {T : Type 0} → Option Fault → Result T Fault → Type 0
MakesUnless refusal (Ok made) = refusal ≡ None
MakesUnless None (Err fault) = fault ≡ NoMemory
MakesUnless (Some first) (Err fault) = fault ≡ first
