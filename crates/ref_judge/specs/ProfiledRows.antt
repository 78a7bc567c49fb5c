-- The rows and the legal traces of a collector with a profile (this project's): each definition stands for the one of
-- `ref_base` that has its name without `As`, and differs from it in what the profile loosens.
use Rattle.std.specs.Prelude.{◌≡◌, ℕ, ◌<◌, Bool, true, false, ◌&&◌, min, List, [], ◌∷◌, ◌++◌, length, take, reverse}
use Rattle.std.specs.Prelude.{Option, Some, None, is_some, slice_set}
use Rattle.ref_base.specs.Members.{has, without_first}
use Rattle.ref_base.specs.DoomedSets.{new_clears}
use Rattle.ref_base.specs.Worlds.{Notice, object_of, queue_at}
use Rattle.ref_base.specs.Replay.{notice_of}
use Rattle.ref_base.specs.Told.{told_object}
use Rattle.ref_base.specs.HeapSteps.{NamedStep, heap_step}
use Rattle.ref_base.specs.Collectors.{State, first_state, joined}
use Rattle.ref_base.specs.Refusals.{is_in, refusal}
use Rattle.ref_base.specs.Runs.{LeadsThrough}
use Rattle.ref_base.specs.CollectorRows.{ticked, list_at, doomed_at, mark_ended, AreFound, Scans, Polls, one_taken}
use Rattle.ref_base.specs.CollectorRows.{PlainAccepts, HeapAccepts, QueuesAccept, with_handed}
use Rattle.ref_base.specs.declared.config.Config.{Config}
use Rattle.ref_base.specs.declared.fault.Fault.{Fault}
use Rattle.ref_base.specs.declared.phase.Phase.TheVariants.{Marking}
use Rattle.ref_base.specs.declared.heap_step.HeapStep.TheVariants as heap
use Rattle.ref_base.specs.declared.plain_step.PlainStep.{PlainStep}
use Rattle.ref_base.specs.declared.plain_step.PlainStep.TheVariants as plain
use Rattle.ref_base.specs.declared.step.Step.{Step}
use Rattle.ref_base.specs.declared.step.Step.TheVariants as steps
use Rattle.ref_base.specs.declared.reply.Reply.{Reply}
use Rattle.ref_base.specs.declared.reply.Reply.TheVariants as replies
use Rattle.ref_base.specs.declared.row.Row.{Row}
use Rattle.ref_judge.specs.KeptBounds.{MayBeKept, MayDoomAs}
use Rattle.ref_judge.specs.declared.order.Order.{Order}
use Rattle.ref_judge.specs.declared.order.Order.TheVariants.{First, Last, Any}
use Rattle.ref_judge.specs.declared.profile.Profile.{Profile}

-- the abstract collector itself
abbrev pub strict : Profile
strict = record { keeps_more = false; soft_free = false; order = First }

-- ---- the mark

-- an object is left: it may be kept, it was made before the cycle began, and no row of the cycle scanned it
abbrev pub IsLeftAs : Profile → State → ℕ → Type 0
IsLeftAs profile a n = MayBeKept profile a n × (n < a.born) × (has (joined a.scanned) n ≡ false)

-- b is c, but that it says anew whether an object is left, and says so only where one is
abbrev pub IsButAs : Profile → State → State → Type 0
IsButAs profile c b =
    (left : Bool) × (b ≡ record c { left = left }) × (left ≡ true → (n : ℕ) × IsLeftAs profile b n)

-- whether that is said anew: as a cycle begins, and where a load or a get of a mark answers an object
abbrev pub says_anew : State → PlainStep → Reply → Bool
says_anew a (plain.Load m d s i) reply = is_in a.world.phase Marking && is_some (told_object reply)
says_anew a (plain.Get m d s) reply = is_in a.world.phase Marking && is_some (told_object reply)
says_anew a (plain.Begin now how) reply = true
says_anew a step reply = false

abbrev pub AcceptsAnew : Profile → Bool → State → PlainStep → Reply → State → Type 0
AcceptsAnew profile true a step reply b = (c : State) × PlainAccepts a step reply c × IsButAs profile c b
AcceptsAnew profile false a step reply b = PlainAccepts a step reply b

abbrev pub ScansAs : Profile → State → ℕ → Reply → State → Type 0
ScansAs profile a k (replies.Scanned n) b =
    (a.left ≡ true) × IsLeftAs profile a n
    × IsButAs profile (ticked (record a { scanned = slice_set a.scanned k (list_at a.scanned k ++ n ∷ []) })) b
ScansAs profile a k reply b = Scans a k reply b

pub record EndsMarkAs (profile : Profile) (a : State) (reply : Reply) (b : State) : Type 0 where
  pub answer : reply ≡ replies.Doomed (length (doomed_at a))
  pub may_doom : MayDoomAs profile a (doomed_at a)
  pub found : List (List ℕ)
  pub are_found : AreFound a.world.heap.objects a.scanned found
  pub all_found : (n : ℕ) → has (new_clears a.world.heap.objects (doomed_at a)) n ≡ true → has (joined found) n ≡ true
  pub after : b ≡ mark_ended a (doomed_at a) found

-- ---- queues

-- these are taken from what stands, one after the other
abbrev pub AreTakenFrom : List Notice → List Notice → Type 0
AreTakenFrom stands [] = Unit {0}
AreTakenFrom stands (notice ∷ rest) =
    (notice_of stands notice.object ≡ notice ∷ [])
    × AreTakenFrom (without_first object_of stands notice.object) rest

-- these may be taken where so many are asked for: as many as that, or all that stand
abbrev pub MayTake : Order → ℕ → List Notice → List Notice → Type 0
MayTake First count stands taken = taken ≡ take count stands
MayTake Last count stands taken = taken ≡ take count (reverse stands)
MayTake Any count stands taken = (length taken ≡ min count (length stands)) × AreTakenFrom stands taken

abbrev pub PollsAs : Order → State → ℕ → ℕ → ℕ → (List ℕ → Reply) → Reply → State → Type 0
PollsAs order a m q count tell reply b =
    (taken : List Notice) × MayTake order count (queue_at a.world q).stands taken × Polls a m q tell taken reply b

-- ---- the rows

abbrev pub PlainAcceptsAs : Profile → State → PlainStep → Reply → State → Type 0
PlainAcceptsAs profile a (plain.Scan k) reply b = ScansAs profile a k reply b
PlainAcceptsAs profile a plain.EndMark reply b = EndsMarkAs profile a reply b
PlainAcceptsAs profile a step reply b = AcceptsAnew profile (says_anew a step reply) a step reply b

abbrev pub HeapAcceptsAs : Profile → State → NamedStep → Reply → State → Type 0
HeapAcceptsAs profile a (heap.Plain step) reply b = PlainAcceptsAs profile a step reply b
HeapAcceptsAs profile a step reply b = HeapAccepts a step reply b

abbrev pub QueuesAcceptAs : Profile → State → Step → Reply → State → Type 0
QueuesAcceptAs profile a (steps.Poll m q) reply b = PollsAs profile.order a m q 1 one_taken reply b
QueuesAcceptAs profile a (steps.Polls m q max) reply b = PollsAs profile.order a m q max replies.TookSome reply b
QueuesAcceptAs profile a step reply b = QueuesAccept a step reply b

abbrev pub AcceptsAskingAs : Profile → State → Option NamedStep → Step → Reply → State → Type 0
AcceptsAskingAs profile a None step reply b = QueuesAcceptAs profile a step reply b
AcceptsAskingAs profile a (Some asked) step reply b =
    (c : State) × HeapAcceptsAs profile a asked reply c × (b ≡ with_handed c step reply)

abbrev pub IsAnswerAs : Profile → State → Option Fault → Step → Reply → State → Type 0
IsAnswerAs profile a (Some fault) step reply b = (reply ≡ replies.Refused fault) × (b ≡ a)
IsAnswerAs profile a None step reply b = AcceptsAskingAs profile a (heap_step a.world step) step reply b

-- from this state, the step may be answered so by a collector of this profile, and then leaves the state b
abbrev pub IsRowAs : Profile → State → Row → State → Type 0
IsRowAs profile a row b = IsAnswerAs profile a (refusal a row.step) row.step row.reply b

-- the rows lead from the one state to the other
abbrev pub IsRunAs : Profile → State → List Row → State → Type 0
IsRunAs profile = LeadsThrough (IsRowAs profile)

-- a trace is legal for a profile where it is a run of its collector from the first state
abbrev pub IsLegalAs : Profile → Config → List Row → Type 0
IsLegalAs profile config rows = (last : State) × IsRunAs profile (first_state config) rows last
