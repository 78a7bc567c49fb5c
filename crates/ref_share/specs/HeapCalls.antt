-- What the calls of a shared heap answer, as calls that its seat has made (this project's profile).
use Rattle.std.specs.Prelude.{◌≡◌, ◌⊎◌, ℕ, Bool, true, false, List, ◌++◌, Option, Some, None, Result, Ok, Err}
use Rattle.ref_base.specs.HeapSteps.{HeldNotice, NamedStep}
use Rattle.ref_base.specs.declared.fault.Fault.{Fault}
use Rattle.ref_base.specs.declared.fault.Fault.TheVariants.{TurnsSpent}
use Rattle.ref_base.specs.declared.heap_step.HeapStep.TheVariants as heap
use Rattle.ref_base.specs.declared.heap_step.HoldName.{HoldName}
use Rattle.ref_base.specs.declared.plain_step.PlainStep.{PlainStep}
use Rattle.ref_base.specs.declared.plain_step.PlainStep.TheVariants as plain
use Rattle.ref_base.specs.declared.reply.Reply.{Reply}
use Rattle.ref_base.specs.declared.reply.Reply.TheVariants as told
use Rattle.ref_base.specs.Told.{told_notices}
use Rattle.ref_clear.specs.ClearCalls.{handed_reply, held_notices}
use Rattle.ref_clear.specs.declared.handed.Handed.{Handed}
use Rattle.ref_world.specs.declared.heap_machine.HeapReply.TheVariants as replies
use Rattle.ref_share.specs.HeapSeats.{HeapView}
use Rattle.ref_share.specs.SeatCalls.{Called, RanOut}

-- ---- a step that hands nothing over

-- whether the reply tells of a refusal
abbrev pub is_refusal : Reply → Bool
is_refusal (told.Refused fault) = true
is_refusal reply = false

-- the step is the heap's one call, and it is not refused
abbrev pub Accepted : HeapView → PlainStep → HeapView → Type 0
Accepted v step w = (reply : Reply) × (is_refusal reply ≡ false) × Called v (heap.Plain step) (replies.Told reply) w

-- the step is refused with this fault; or no turn is left for it
abbrev pub Declined : HeapView → PlainStep → Fault → HeapView → Type 0
Declined v step fault w =
    Called v (heap.Plain step) (replies.Told (told.Refused fault)) w ⊎ ((fault ≡ TurnsSpent) × RanOut v w)

-- the one or the other
abbrev pub Performs : HeapView → PlainStep → Result Reply Fault → HeapView → Type 0
Performs v step (Ok reply) w = (is_refusal reply ≡ false) × Called v (heap.Plain step) (replies.Told reply) w
Performs v step (Err fault) w = Declined v step fault w

-- the step is the heap's one call, and answers so; or no turn is left for it
abbrev pub AsksHeap : HeapView → PlainStep → Result Reply Fault → HeapView → Type 0
AsksHeap v step (Ok reply) w = Called v (heap.Plain step) (replies.Told reply) w
AsksHeap v step (Err fault) w = (fault ≡ TurnsSpent) × RanOut v w

-- ---- holds and notices: turns are no fault of a heap's own, so with TurnsSpent no call was made

-- whether the step may give a notice
abbrev pub asks_for_a_notice : NamedStep → Bool
asks_for_a_notice (heap.Unhook m s) = true
asks_for_a_notice (heap.Hand k) = true
asks_for_a_notice step = false

-- the step is the heap's one call, and is refused with this fault; with TurnsSpent no turn was left for it
abbrev pub Refuses : HeapView → NamedStep → Fault → HeapView → Type 0
Refuses v step TurnsSpent w = RanOut v w
Refuses v step fault w = Called v step (replies.Told (told.Refused fault)) w

-- a step that would spend the hold is refused, as `Refuses` says, and the heap goes on counting the hold
abbrev pub KeepsBack : HeapView → NamedStep → HoldName → Fault → HeapView → Type 0
KeepsBack v step hold TurnsSpent w = RanOut v w
KeepsBack v step hold fault w = Called v step (replies.Back fault hold) w

-- the heap gives a hold of what the slot holds, or refuses it
abbrev pub HoldsSlot : HeapView → (m s : ℕ) → Result HoldName Fault → HeapView → Type 0
HoldsSlot v m s (Ok hold) w = Called v (heap.Hold m s) (replies.Held hold) w
HoldsSlot v m s (Err fault) w = Refuses v (heap.Hold m s) fault w

-- the heap gives the notice of an unhook or a hand, tells that there is none, or refuses it
abbrev pub GivesNotice : HeapView → NamedStep → Result (Option HeldNotice) Fault → HeapView → Type 0
GivesNotice v step (Ok (Some notice)) w = Called v step (replies.Notice notice) w
GivesNotice v step (Ok None) w = Called v step (replies.Told told.Nothing) w
GivesNotice v step (Err fault) w = Refuses v step fault w

-- a hand of a batch is refused with this fault, and the batch comes back as it was; with TurnsSpent no turn was left
-- for it
abbrev pub RefusesBatch : HeapView → (k max : ℕ) → List HeldNotice → Fault → HeapView → Type 0
RefusesBatch v k max batch TurnsSpent w = RanOut v w
RefusesBatch v k max batch fault w =
    Called v (heap.Hands k max batch) (replies.Handed (told.Refused fault) batch) w

-- the heap gives the notices of a hand of a batch, behind what stands in the batch, or tells that there are none: it is
-- one call; or it refuses them
abbrev pub GivesBatch : HeapView → (k max : ℕ) → List HeldNotice → Result (Option Handed) Fault → List HeldNotice
    → HeapView → Type 0
GivesBatch v k max batch (Ok answer) left w =
    ((heap_no : ℕ) × (left ≡ batch ++ held_notices heap_no (told_notices (handed_reply k answer))))
    × Called v (heap.Hands k max batch) (replies.Handed (handed_reply k answer) left) w
GivesBatch v k max batch (Err fault) left w = (left ≡ batch) × RefusesBatch v k max batch fault w

-- what is answered to such a step where a reply comes without a notice
abbrev pub TellsOfNone : Reply → Result (Option HeldNotice) Fault → Type 0
TellsOfNone (told.Refused fault) result = result ≡ Err fault
TellsOfNone reply result = result ≡ Ok None

-- the slot then holds what the hold holds, and the hold is spent; or it comes back
abbrev pub Adopts : HeapView → (m d : ℕ) → HoldName → Result (Unit {0}) (Fault × HoldName) → HeapView → Type 0
Adopts v m d hold (Ok _) w = Called v (heap.Adopt m d hold) (replies.Told (told.Object hold.object)) w
Adopts v m d hold (Err (fault, back)) w = (back ≡ hold) × KeepsBack v (heap.Adopt m d hold) hold fault w

-- the hold goes back to the heap; or it comes back
abbrev pub Releases : HeapView → HoldName → Result (Unit {0}) (Fault × HoldName) → HeapView → Type 0
Releases v hold (Ok _) w = Called v (heap.Release hold) (replies.Told told.Done) w
Releases v hold (Err (fault, back)) w = (back ≡ hold) × KeepsBack v (heap.Release hold) hold fault w

-- whether the step takes a hold along
abbrev pub takes_a_hold : NamedStep → Bool
takes_a_hold (heap.Adopt m d hold) = true
takes_a_hold (heap.Release hold) = true
takes_a_hold step = false

-- whether it takes anything along: a hold, or a batch
abbrev pub takes_along : NamedStep → Bool
takes_along (heap.Adopt m d hold) = true
takes_along (heap.Release hold) = true
takes_along (heap.Hands k max batch) = true
takes_along step = false

-- the one or the other
abbrev pub Spends : HeapView → NamedStep → Result (Unit {0}) (Fault × HoldName) → HeapView → Type 0
Spends v (heap.Adopt m d hold) result w = Adopts v m d hold result w
Spends v (heap.Release hold) result w = Releases v hold result w
Spends v step result w = ⊥

-- ---- which replies a step may have, where it is not refused

-- whether a slot then holds what is answered, an object or none
abbrev pub fills_a_slot : PlainStep → Bool
fills_a_slot (plain.Load m d s f) = true
fills_a_slot (plain.Copy m d s) = true
fills_a_slot (plain.Get m d s) = true
fills_a_slot step = false

-- whether it changes what is there, and tells nothing
abbrev pub tells_nothing : PlainStep → Bool
tells_nothing (plain.Store m s f v) = true
tells_nothing (plain.Drop m s) = true
tells_nothing (plain.Clear m s) = true
tells_nothing step = false

abbrev pub tells_of_object : Reply → Bool
tells_of_object (told.Object n) = true
tells_of_object reply = false

abbrev pub tells_of_found : Reply → Bool
tells_of_found told.Null = true
tells_of_found reply = tells_of_object reply

abbrev pub tells_done : Reply → Bool
tells_done told.Done = true
tells_done reply = false

abbrev pub tells_of_comparison : Reply → Bool
tells_of_comparison (told.Refers b) = true
tells_of_comparison reply = false

-- the replies to a mutator's steps; of the others nothing is said here
abbrev pub may_answer : PlainStep → Reply → Bool
may_answer (plain.New m s n) reply = tells_of_object reply
may_answer (plain.Refer m strength s source q n) reply = tells_of_object reply
may_answer (plain.Load m d s f) reply = tells_of_found reply
may_answer (plain.Copy m d s) reply = tells_of_found reply
may_answer (plain.Get m d s) reply = tells_of_found reply
may_answer (plain.Store m s f v) reply = tells_done reply
may_answer (plain.Drop m s) reply = tells_done reply
may_answer (plain.Clear m s) reply = tells_done reply
may_answer (plain.RefersTo m s o) reply = tells_of_comparison reply
may_answer step reply = true
