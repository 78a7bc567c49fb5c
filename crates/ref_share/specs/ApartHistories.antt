-- Which references the history of a heap keeps apart: each is in no slot, so that no step names it, and one hold of it
-- is out (this project's profile; Java SE 17 `java.lang.ref.Cleaner`, whose `Cleanable` nobody gets, clears or
-- enqueues).
use Rattle.std.specs.Prelude.{◌≡◌, ◌≢◌, ◌≤◌, ℕ, true, false, List, [], ◌∷◌, ◌++◌, Option, Some, None}
use Rattle.std.specs.List.{AllByRecursion}
use Rattle.ref_base.specs.CountedHolds.{tally}
use Rattle.ref_base.specs.Graphs.{is_there}
use Rattle.ref_base.specs.Heaps.{slot_at}
use Rattle.ref_base.specs.HeapSteps.{HeldNotice, NamedStep}
use Rattle.ref_base.specs.Members.{has}
use Rattle.ref_base.specs.Paths.{any_referent, targets_at}
use Rattle.ref_base.specs.Told.{told_object}
use Rattle.ref_base.specs.declared.cause.Cause.TheVariants.{Cycle}
use Rattle.ref_base.specs.declared.config.Config.{Config}
use Rattle.ref_base.specs.declared.heap_step.HeapStep.TheVariants as heap
use Rattle.ref_base.specs.declared.heap_step.HoldName.{HoldName}
use Rattle.ref_base.specs.declared.plain_step.PlainStep.{PlainStep}
use Rattle.ref_base.specs.declared.plain_step.PlainStep.TheVariants as plain
use Rattle.ref_base.specs.declared.reply.Reply.TheVariants as told
use Rattle.ref_turn.specs.Seats.{entry}
use Rattle.ref_world.specs.HeapReplies.{HeapAnswer}
use Rattle.ref_world.specs.declared.heap_machine.HeapReply.TheVariants as replies
use Rattle.ref_share.specs.CleanSeats.{CleanEntry}
use Rattle.ref_share.specs.Cleanings.{makes_phantom}
use Rattle.ref_share.specs.HeapHistories.{minted, minted_by}
use Rattle.ref_share.specs.HeapSeats.{HeapEntry}
use Rattle.ref_share.specs.HeapTraces.{HeapMarkEnded, heap_replayed}
use Rattle.ref_share.specs.declared.clean_machine.CleanStep.{CleanStep}
use Rattle.ref_share.specs.declared.clean_machine.CleanStep.TheVariants as steps

-- ---- of a heap

-- the object that a call puts into a slot, if it does: a new one, or what it loads, copies, gets or adopts
abbrev pub put_in_slot : HeapAnswer → Option ℕ
put_in_slot (replies.Told reply) = told_object reply
put_in_slot reply = None

-- none of the calls puts n into a slot
abbrev pub PutInNoSlot : ℕ → List HeapEntry → Type 0
PutInNoSlot n = AllByRecursion (λ call. put_in_slot call.reply ≢ Some n)

-- nor gives a hold of it
abbrev pub AreOfOthers : ℕ → List HeapEntry → Type 0
AreOfOthers n calls =
    PutInNoSlot n calls × AllByRecursion (λ call. has (minted_by call.step call.reply) n ≡ false) calls

-- after these calls, by their replay, n is in no slot, and of it they gave one hold
pub record IsApart (config : Config) (number : ℕ) (calls : List HeapEntry) (n : ℕ) : Type 0 where
  pub in_no_slot : (m s : ℕ) → slot_at (heap_replayed config number calls).heap m s ≢ Some n
  pub held_once : tally (minted calls) n ≡ 1

-- the notice is of a cycle whose mark ended in one of these calls, where the referent of its reference was dead
abbrev pub IsOfDeath : Config → ℕ → List HeapEntry → HeldNotice → Type 0
IsOfDeath config number calls notice =
    (cycle : ℕ) × (worker : ℕ) × (notice.cause ≡ Cycle cycle worker)
    × HeapMarkEnded config number calls cycle notice.hold.object

-- The three calls of a heap by which reference n is registered apart, among calls that neither put it into a slot nor
-- give a hold of it: it is made, for the cleaner's queue, in a slot, held, and dropped from the slot.
pub record AreOfOneApart (queue m src dst n : ℕ) (calls : List HeapEntry) : Type 0 where
  pub before : List HeapEntry
  pub between : List HeapEntry
  pub behind : List HeapEntry
  pub by : ℕ
  pub hold : HoldName
  pub of_it : hold.object ≡ n
  pub calls_are :
      calls
      ≡ before ++ entry by (heap.Plain (makes_phantom queue m src dst)) (replies.Told (told.Object n))
      ∷ (between ++ entry by (heap.Hold m dst) (replies.Held hold)
      ∷ (behind ++ entry by (heap.Plain (plain.Drop m dst)) (replies.Told told.Done) ∷ []))
  pub others : AreOfOthers n before × AreOfOthers n between × AreOfOthers n behind

-- ---- of a heap, told by the steps that are asked

-- the mutator whose slots the step names, if it names any
abbrev pub plain_mutator : PlainStep → Option ℕ
plain_mutator (plain.New m d k) = Some m
plain_mutator (plain.Refer m strength d s q k) = Some m
plain_mutator (plain.Store m s i v) = Some m
plain_mutator (plain.Load m d s i) = Some m
plain_mutator (plain.Copy m d s) = Some m
plain_mutator (plain.Drop m s) = Some m
plain_mutator (plain.Get m d s) = Some m
plain_mutator (plain.Clear m s) = Some m
plain_mutator (plain.RefersTo m s v) = Some m
plain_mutator step = None

abbrev pub mutator_of : NamedStep → Option ℕ
mutator_of (heap.Plain step) = plain_mutator step
mutator_of (heap.Unhook m s) = Some m
mutator_of (heap.Hold m s) = Some m
mutator_of (heap.Adopt m d hold) = Some m
mutator_of step = None

-- the object whose hold the step would adopt, if it is an adopt
abbrev pub adopted_by : NamedStep → Option ℕ
adopted_by (heap.Adopt m d hold) = Some hold.object
adopted_by step = None

-- none of the calls adopts a hold of n
abbrev pub AdoptNone : ℕ → List HeapEntry → Type 0
AdoptNone n = AllByRecursion (λ call. adopted_by call.step ≢ Some n)

-- of the calls, those that other seats than k made name no slot of mutator m
abbrev pub OthersLeave : (k m : ℕ) → List HeapEntry → Type 0
OthersLeave k m = AllByRecursion (λ call. call.by ≢ k → mutator_of call.step ≢ Some m)

-- after these calls, by their replay, no slot has n, and no object has it in a field or as its referent
pub record IsNowhere (config : Config) (number : ℕ) (calls : List HeapEntry) (n : ℕ) : Type 0 where
  pub in_no_slot : (m s : ℕ) → slot_at (heap_replayed config number calls).heap m s ≢ Some n
  pub in_no_object : (m : ℕ)
      → has (targets_at any_referent (heap_replayed config number calls).heap.objects m) n ≡ false

-- a mark ended in one of these calls, where n was a reference and its referent was dead
abbrev pub WasFoundDead : Config → ℕ → List HeapEntry → ℕ → Type 0
WasFoundDead config number calls n = (cycle : ℕ) × HeapMarkEnded config number calls cycle n

-- after these calls n is made, it is in no slot and in no object, and of it they gave no two holds unless a mark's end
-- found its referent dead
pub record IsKeptApart (config : Config) (number : ℕ) (calls : List HeapEntry) (n : ℕ) : Type 0 where
  pub is_made : is_there (heap_replayed config number calls).heap.objects n ≡ true
  pub nowhere : IsNowhere config number calls n
  pub once_or_dead : 2 ≤ tally (minted calls) n → WasFoundDead config number calls n

-- ---- of a cleaner

-- a job that the call registers is kept with a hold of its own reference
abbrev pub RegistersOwn : {J : Type 0} → CleanStep HoldName J → Type 0
RegistersOwn (steps.Register n hold job) = hold.object ≡ n
RegistersOwn step = Unit {0}

-- each job that one of the calls registers is kept with a hold of its own reference
abbrev pub RegisterOwn : {J : Type 0} → List (CleanEntry J) → Type 0
RegisterOwn {J} = AllByRecursion (λ (call : CleanEntry J). RegistersOwn call.step)
