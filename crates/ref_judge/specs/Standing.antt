-- Which states of a collector fit what a judge was told, and what a judge makes of a row (this project's).
use Rattle.std.specs.Prelude.{◌≡◌, ℕ, ◌<◌, ◌≤◌, Bool, true, false, not, ◌==◌, ◌||◌, List, [], length, map}
use Rattle.std.specs.Prelude.{Option, Some, None, if◌then◌else◌, Result, Ok, Err}
use Rattle.ref_base.specs.Members.{has}
use Rattle.ref_base.specs.Graphs.{is_there}
use Rattle.ref_base.specs.Forgetting.{heap_but}
use Rattle.ref_base.specs.Heaps.{reference_at, registered_in}
use Rattle.ref_base.specs.QueueLists.{enqueued}
use Rattle.ref_base.specs.Worlds.{object_of, queue_at}
use Rattle.ref_base.specs.Refusals.{is_in}
use Rattle.ref_base.specs.Collectors.{State, joined, first_state}
use Rattle.ref_base.specs.declared.config.Config.{Config}
use Rattle.ref_base.specs.declared.fault.Fault.{Fault}
use Rattle.ref_base.specs.declared.phase.Phase.TheVariants.{Marking, Clearing}
use Rattle.ref_base.specs.declared.reply.Reply.{Reply}
use Rattle.ref_base.specs.declared.reply.Reply.TheVariants.{Refused}
use Rattle.ref_base.specs.declared.row.Row.{Row}
use Rattle.ref_base.specs.declared.step.Step.{Step}
use Rattle.ref_base.specs.declared.step.Step.TheVariants.{Plain}
use Rattle.ref_space.specs.declared.colour.Colour.TheVariants.{A, B}
use Rattle.ref_objects.specs.Grounds.{cleared_in_at}
use Rattle.ref_objects.specs.declared.stage.Stage.TheVariants.{Tuned}
use Rattle.ref_base.proofs.EverWorlds.{Knows}
use Rattle.ref_judge.specs.ProfiledRows.{IsRowAs, IsRunAs, IsLeftAs, says_anew}
use Rattle.ref_judge.specs.Judged.{Judged, Finder, finder_at, found_by, still_left, is_behind_mark, is_judging}
use Rattle.ref_judge.specs.Judged.{has_one, is_going, is_put, unheld, wants_memory, AreHands, AreLines, AreToldCleared}
use Rattle.ref_judge.specs.declared.profile.Profile.{Profile}
use Rattle.ref_judge.specs.declared.rule.Instead.{Instead}
use Rattle.ref_judge.specs.declared.rule.Instead.TheVariants.{Only, Among, Untold}
use Rattle.ref_judge.specs.declared.rule.Objection.{Objection}
use Rattle.ref_judge.specs.declared.rule.Objection.TheVariants.{Illegal, NoMemory}
use Rattle.ref_judge.specs.declared.stop.Stop.{Stop}
use Rattle.ref_base.proofs.Fitting.{Fits}
use Rattle.ref_base.proofs.FoundRows.{FitsFound}
use Rattle.ref_base.proofs.MarkEndRows.{refs_of}
use Rattle.ref_judge.specs.Policies.{profiled}

-- rows of a collector of the profile lead to the state
abbrev pub Lawful : Profile → Config → State → Type 0
Lawful p config a = (rows : List Row) × IsRunAs p (first_state config) rows a

-- ---- what a judge's value says of a state

-- in a mark, where the collector keeps no more, just those are marked that may be kept
abbrev pub KnowsKept : Judged → State → Type 0
KnowsKept j a =
    is_in j.phase Marking ≡ true → j.profile.keeps_more ≡ false
    → Knows (λ n. has j.ground.marked n ≡ true) (profiled j.profile a)

-- from a mark's end on, just those aren't marked that it doomed
abbrev pub MarksLive : Judged → State → Type 0
MarksLive j a =
    is_behind_mark j.phase ≡ true → (n : ℕ) → is_there a.world.heap.objects n ≡ true
    → has j.ground.marked n ≡ not (has a.doomed n)

-- each object has in its tag the last cycle that scanned it, none of which is to come
pub record TagsTell (j : Judged) (a : State) : Type 0 where
  pub old : (n : ℕ) → cleared_in_at j.ground.tags n ≤ j.cycle
  pub scanned :
      is_judging j.phase ≡ true → (n : ℕ) → is_there a.world.heap.objects n ≡ true
      → (cleared_in_at j.ground.tags n == j.cycle) ≡ has (joined a.scanned) n
  pub put :
      (n q : ℕ) → registered_in (reference_at a.world.heap n) ≡ Some q
      → is_put j.ground.tags n ≡ has (enqueued object_of (queue_at a.world q)) n

-- each worker has its references, and what the mark's end cleared among them
pub record FindersTell (j : Judged) (a : State) : Type 0 where
  pub pending : map (λ (w : Finder). w.pending) j.workers ≡ a.world.pending
  pub within : (k : ℕ) → (finder_at j k).at ≤ length (finder_at j k).found
  pub found : is_judging j.phase ≡ true → (k : ℕ) → found_by j k ≡ refs_of a k
  pub cleared : is_in j.phase Clearing ≡ true → (k : ℕ) → AreToldCleared a.cleared (finder_at j k).found

-- The judge's value is of this state, whatever is free in it: some rows lead to it, and each part of it that isn't
-- free or past is the judge's.
pub record StandsFor (j : Judged) (a : State) : Type 0 where
  pub lawful : Lawful j.profile j.config a
  pub heap : j.ground.heap ≡ heap_but a.doomed (unheld a.world.heap)
  pub next : j.ground.next ≡ a.next
  pub holds : j.holds ≡ length a.world.heap.holds
  pub mutator_hands : AreHands j.hands.mutators a.world.mutator_hands
  pub worker_hands : AreHands j.hands.workers a.world.worker_hands
  pub lines : AreLines j.lines a.world.queues
  pub phase : j.phase ≡ a.world.phase
  pub cycle : j.cycle ≡ a.world.cycle
  pub policy : j.policy ≡ a.world.policy
  pub born : j.born ≡ a.born
  pub count : is_in j.phase Marking ≡ true → j.scanned ≡ length (joined a.scanned)
  pub chosen : j.was_chosen ≡ a.moved
  pub doomed : j.doomed.stands ≡ a.doomed
  pub kept : KnowsKept j a
  pub live : MarksLive j a
  pub tags : TagsTell j a
  pub finders : FindersTell j a

-- what holds of a judge's value between rows: nothing is grey, lists have room, no object moves, the colours of its two
-- rounds of marks take turns, in a mark it may be said that an object is left, or that none is, and in clearing a
-- worker has a reference left where it was said that one has
pub record IsSettled (j : Judged) : Type 0 where
  pub none_grey : j.grey.stands ≡ []
  pub grey_room : j.grey.room ≡ j.config.cells
  pub doomed_room : j.doomed.room ≡ j.config.cells
  pub config : j.ground.heap.config ≡ j.config
  pub none_to_move : j.ground.space.still_to_move ≡ []
  pub none_chosen : j.ground.space.has_choice ≡ false
  pub tuned : is_going j.phase ≡ true → j.ground.space.stage ≡ Tuned
  pub colour : j.ground.space.last ≡ (if is_in j.phase Marking then A else B)
  pub condemning : j.ground.condemning ≡ is_behind_mark j.phase
  pub may : is_in j.phase Marking ≡ true → (j.may_be_left || j.may_be_none) ≡ true
  pub waits :
      is_in j.phase Clearing ≡ true → j.some_left ≡ true
      → (k : ℕ) × ((finder_at j k).at < length (finder_at j k).found)

-- ---- what is free

-- the states that fit: in a mark they differ in whether it is said that an object is left, in clearing in what workers
-- found, and else in nothing
abbrev pub FitsIn : Bool → Bool → Judged → State → State → Type 0
FitsIn true clears j a b = Fits a j.may_be_left j.may_be_none b
FitsIn false true j a b = FitsFound a (still_left j) j.some_left b
FitsIn false false j a b = b ≡ a

abbrev pub FitsIt : Judged → State → State → Type 0
FitsIt j a b = FitsIn (is_in j.phase Marking) (is_in j.phase Clearing) j a b

-- rows lead to each state that fits
abbrev pub AreLawful : Judged → State → Type 0
AreLawful j a = (s : State) → FitsIt j a s → Lawful j.profile j.config s

-- a judge's value between rows is of some state
pub record IsOfSomeState (j : Judged) : Type 0 where
  pub settled : IsSettled j
  pub state : State
  pub stands : StandsFor j state
  pub fits : AreLawful j state

-- ---- rows

abbrev pub reply_of_result : Result Reply Fault → Reply
reply_of_result (Ok reply) = reply
reply_of_result (Err fault) = Refused fault

-- the bit tells whether an object is left
abbrev pub DecidesAs : Profile → Bool → State → Type 0
DecidesAs p is_left a = (is_left ≡ true → (n : ℕ) × IsLeftAs p a n) × ((n : ℕ) → IsLeftAs p a n → is_left ≡ true)

-- whether the step, so answered, says anew whether an object is left
abbrev pub is_anew : State → Step → Result Reply Fault → Bool
is_anew a (Plain step) (Ok (Refused fault)) = false
is_anew a (Plain step) (Ok reply) = says_anew a step reply
is_anew a step result = false

-- what is said of what is free is the same
pub record SaysTheSame (old new : Judged) : Type 0 where
  pub left : new.may_be_left ≡ old.may_be_left
  pub none : new.may_be_none ≡ old.may_be_none
  pub some : new.some_left ≡ old.some_left
  pub finders : (k : ℕ) → still_left new k ≡ still_left old k

-- or it is told anew, and rightly, whether an object is left
abbrev pub SaysRightly : Bool → Judged → Judged → State → Type 0
SaysRightly true old new b = (new.may_be_none ≡ true) × DecidesAs old.profile new.may_be_left b
SaysRightly false old new b = SaysTheSame old new

-- The step, accepted or refused as the result says, leads from each state of the judge's value to one of the new value,
-- and what is said of what is free stays, or is told anew.
pub record LeadsOne (old : Judged) (step : Step) (result : Result Reply Fault) (new : Judged) (a : State) : Type 0 where
  pub state : State
  pub row : IsRowAs old.profile a (record { step = step; reply = reply_of_result result }) state
  pub stands : StandsFor new state
  pub says : SaysRightly (is_anew a step result) old new state

abbrev pub DoesAs : Judged → Step → Result Reply Fault → Judged → Type 0
DoesAs old step result new =
    (new.profile ≡ old.profile) × (new.config ≡ old.config)
    × ((a : State) → StandsFor old a → LeadsOne old step result new a)

-- the states that fit after a row are just those to which it leads from states that fitted before
pub record LeadsOn (old new : Judged) (row : Row) (a : State) : Type 0 where
  pub state : State
  pub stands : StandsFor new state
  pub on : (s t : State) → FitsIt old a s → IsRowAs old.profile s row t → FitsIt new state t
  pub back : (t : State) → FitsIt new state t → (s : State) × FitsIt old a s × IsRowAs old.profile s row t

-- no state that fits has the row
abbrev pub HasNone : Judged → Row → State → Type 0
HasNone old row a = (s t : State) → FitsIt old a s → IsRowAs old.profile s row t → ⊥

-- and that is so of each state of the judge's value
abbrev pub IsIllegal : Judged → Row → Type 0
IsIllegal old row = (a : State) → StandsFor old a → HasNone old row a

-- a state that fits has the row, and those fit then to which it leads
abbrev pub TakesRow : Judged → Row → Judged → Type 0
TakesRow old row new =
    (new.profile ≡ old.profile) × (new.config ≡ old.config)
    × ((a : State) → StandsFor old a → AreLawful old a → LeadsOn old new row a)

-- A judge takes the row where a state that fits has it, and stops where none has: unless memory is refused, which says
-- nothing of the row. Where it stops nothing changes.
abbrev pub TellsOf : Judged → Row → Result (Unit {0}) Stop → Judged → Type 0
TellsOf old row (Ok done) new = TakesRow old row new
TellsOf old row (Err Stop.Illegal) new = IsIllegal old row × (new ≡ old)
TellsOf old row (Err Stop.NoMemory) new = (wants_memory row.step ≡ true) × (new ≡ old)

-- The row of a step with this answer is taken, and with any other no state that fits has it.
pub record IsOneAnswer (old : Judged) (step : Step) (answer : Reply) (new : Judged) : Type 0 where
  pub taken : TakesRow old (record { step = step; reply = answer }) new
  pub alone : (other : Reply) → (answer ≡ other → ⊥) → IsIllegal old (record { step = step; reply = other })

-- The answer of a step is one, and its row is taken; or a collector may have a choice, and nothing changes.
abbrev pub HasOneAnswer : Judged → Step → Option Reply → Judged → Type 0
HasOneAnswer old step (Some answer) new = IsOneAnswer old step answer new
HasOneAnswer old step None new = (has_one step ≡ false) × (new ≡ old)

-- what is answered where a step is refused, if it is
abbrev pub refused_so : Option Fault → Option Reply
refused_so None = None
refused_so (Some fault) = Some (Refused fault)

-- some state that fits has the row of the step with this reply
abbrev pub IsLegalIn : Judged → Step → Reply → Type 0
IsLegalIn old step reply =
    (a : State) → StandsFor old a → AreLawful old a
    → (s : State) × (t : State) × FitsIt old a s × IsRowAs old.profile s (record { step = step; reply = reply }) t

-- and none with another
pub record IsAloneLegal (old : Judged) (step : Step) (reply : Reply) : Type 0 where
  pub some : IsLegalIn old step reply
  pub alone : (other : Reply) → (reply ≡ other → ⊥) → IsIllegal old (record { step = step; reply = other })

-- The reply that alone is legal is named; or, where a collector may have a choice, one that is legal, or none.
abbrev pub NamesAnswer : Judged → Step → Instead → Type 0
NamesAnswer old step (Only reply) = IsAloneLegal old step reply
NamesAnswer old step (Among reply) = (has_one step ≡ false) × IsLegalIn old step reply
NamesAnswer old step Untold = has_one step ≡ false

-- a judge objects to a row that no state has that fits; or the memory that its step wants is refused, which says
-- nothing of the row and changes nothing
abbrev pub ObjectsTo : Judged → Row → Objection → Judged → Type 0
ObjectsTo old row (Illegal breach) new = IsIllegal old row × NamesAnswer old row.step breach.instead
ObjectsTo old row NoMemory new = (wants_memory row.step ≡ true) × (new ≡ old)

-- ---- at first

-- a new judge is of the first state, which alone fits
pub record IsNewJudge (profile : Profile) (config : Config) (j : Judged) : Type 0 where
  pub profile_is : j.profile ≡ profile
  pub config_is : j.config ≡ config
  pub stands : StandsFor j (first_state config)
  pub alone : (b : State) → FitsIt j (first_state config) b → b ≡ first_state config
  pub fits : FitsIt j (first_state config) (first_state config)
  pub settled : IsSettled j
