-- Which step is refused, and with which fault: the first that applies (this project's profile). A number of an actor or
-- slot outside the configuration comes first.
use Rattle.std.specs.Prelude.{ℕ, ◌+◌, ◌^◌, ◌-◌, Bool, true, false, ◌&&◌, not, ◌==◌, if◌then◌else◌, nat_lt, nat_le}
use Rattle.std.specs.Prelude.{List, [], ◌∷◌, take, length, Option, Some, None, is_some}
use Rattle.ref_base.specs.Members.{has}
use Rattle.ref_base.specs.Graphs.{Object, Reference, object_at}
use Rattle.ref_base.specs.Heaps.{Heap, slot_at, reference_at}
use Rattle.ref_base.specs.Worlds.{Notice, Pending, hand_of, pending_of}
use Rattle.ref_base.specs.Collectors.{State, joined}
use Rattle.ref_base.specs.HeapSteps.{NamedStep, heap_step}
use Rattle.ref_base.specs.declared.actor.Actor.{Actor}
use Rattle.ref_base.specs.declared.actor.Actor.TheVariants.{Mutator, Worker}
use Rattle.ref_base.specs.declared.phase.Phase.{Phase}
use Rattle.ref_base.specs.declared.phase.Phase.TheVariants.{Idle, Marking, Clearing, Sweeping, Moving}
use Rattle.ref_base.specs.declared.fault.Fault.{Fault}
use Rattle.ref_base.specs.declared.fault.Fault.TheVariants.{NoCell, NumbersSpent, EmptySlot, BadField, NotAReference}
use Rattle.ref_base.specs.declared.fault.Fault.TheVariants.{NoSuchActor, BadConfig, BadQueue, WrongPhase, ClockBack}
use Rattle.ref_base.specs.declared.fault.Fault.TheVariants.{GreyLeft}
use Rattle.ref_base.specs.declared.fault.Fault.TheVariants.{ClearingLeft, SweepLeft, HandFull, HandEmpty, ForeignHold}
use Rattle.ref_base.specs.declared.heap_step.HoldName.{HoldName}
use Rattle.ref_base.specs.declared.heap_step.HeapStep.TheVariants as heap
use Rattle.ref_base.specs.declared.plain_step.PlainStep.{PlainStep}
use Rattle.ref_base.specs.declared.plain_step.PlainStep.TheVariants as plain
use Rattle.ref_base.specs.declared.step.Step.{Step}
use Rattle.ref_base.specs.declared.step.Step.TheVariants as steps

-- that fault where the test fails, and else what comes later
abbrev pub unless : Bool → Fault → Option Fault → Option Fault
unless true fault later = later
unless false fault later = Some fault

-- ---- what a heap refuses: the next object number is given beside it where one is needed

abbrev pub is_mutator : Heap → ℕ → Bool
is_mutator h m = nat_lt m h.config.mutators

abbrev pub is_worker : Heap → ℕ → Bool
is_worker h k = nat_lt k h.config.workers

abbrev pub is_queue : Heap → ℕ → Bool
is_queue h q = nat_lt q h.config.queues

abbrev pub is_queue_or_none : Heap → Option ℕ → Bool
is_queue_or_none h None = true
is_queue_or_none h (Some q) = is_queue h q

-- the mutator is there, and has slots of these numbers
abbrev pub has_slot : Heap → ℕ → ℕ → Bool
has_slot h m s = is_mutator h m && nat_lt s 16

abbrev pub has_slots : Heap → ℕ → ℕ → ℕ → Bool
has_slots h m s r = has_slot h m s && nat_lt r 16

-- how many fields the object has: none where there is no object
abbrev pub field_count : Option Object → ℕ
field_count None = 0
field_count (Some o) = length o.fields

-- EmptySlot where the slot is empty, and else what comes later
abbrev pub unless_empty : Option ℕ → Option Fault → Option Fault
unless_empty None later = Some EmptySlot
unless_empty (Some n) later = later

-- of an object with so many fields: BadField above 8, then NumbersSpent and NoCell where there is none for it
abbrev pub object_refusal : Heap → ℕ → ℕ → Option Fault
object_refusal h next k =
    unless (nat_le k 8) BadField
    (unless (nat_lt next (2 ^ 32)) NumbersSpent
    (unless (nat_lt (length h.objects) h.config.cells) NoCell None))

abbrev pub new_refusal : Heap → ℕ → ℕ → ℕ → ℕ → Option Fault
new_refusal h next m d k = unless (has_slot h m d) NoSuchActor (object_refusal h next k)

abbrev pub refer_refusal : Heap → ℕ → ℕ → ℕ → ℕ → Option ℕ → ℕ → Option Fault
refer_refusal h next m d s q k =
    unless (has_slots h m d s) NoSuchActor
    (unless (is_queue_or_none h q) BadQueue (unless_empty (slot_at h m s) (object_refusal h next k)))

-- EmptySlot where the slot is empty, BadField where its object hasn't this field
abbrev pub field_refusal : Heap → Option ℕ → ℕ → Option Fault
field_refusal h None i = Some EmptySlot
field_refusal h (Some n) i = unless (nat_lt i (field_count (object_at h.objects n))) BadField None

abbrev pub store_refusal : Heap → ℕ → ℕ → ℕ → ℕ → Option Fault
store_refusal h m s i v = unless (has_slots h m s v) NoSuchActor (field_refusal h (slot_at h m s) i)

abbrev pub load_refusal : Heap → ℕ → ℕ → ℕ → ℕ → Option Fault
load_refusal h m d s i = unless (has_slots h m d s) NoSuchActor (field_refusal h (slot_at h m s) i)

abbrev pub copy_refusal : Heap → ℕ → ℕ → ℕ → Option Fault
copy_refusal h m d s = unless (has_slots h m d s) NoSuchActor None

abbrev pub drop_refusal : Heap → ℕ → ℕ → Option Fault
drop_refusal h m s = unless (has_slot h m s) NoSuchActor None

-- EmptySlot where the slot is empty, NotAReference where its object is none
abbrev pub reference_refusal : Heap → Option ℕ → Option Fault
reference_refusal h None = Some EmptySlot
reference_refusal h (Some n) = unless (is_some (reference_at h n)) NotAReference None

-- of a get into slot d, or a comparison with it, of the reference in slot s
abbrev pub get_refusal : Heap → ℕ → ℕ → ℕ → Option Fault
get_refusal h m d s = unless (has_slots h m d s) NoSuchActor (reference_refusal h (slot_at h m s))

abbrev pub clear_refusal : Heap → ℕ → ℕ → Option Fault
clear_refusal h m s = unless (has_slot h m s) NoSuchActor (reference_refusal h (slot_at h m s))

-- NumbersSpent where no more holds can be counted
abbrev pub holds_refusal : Heap → Option Fault
holds_refusal h = unless (nat_lt (length h.holds) (2 ^ 64 - 1)) NumbersSpent None

-- NotAReference where it is none; where it has a queue it gets one more hold, which must be counted
abbrev pub minting_refusal : Heap → Option Reference → Option Fault
minting_refusal h None = Some NotAReference
minting_refusal h (Some r) = if is_some r.queue then holds_refusal h else None

-- of an unhook, by what its slot holds
abbrev pub unhook_refusal : Heap → Option ℕ → Option Fault
unhook_refusal h None = Some EmptySlot
unhook_refusal h (Some n) = minting_refusal h (reference_at h n)

-- ---- hands

abbrev pub is_actor : Heap → Actor → Bool
is_actor h (Mutator m) = is_mutator h m
is_actor h (Worker k) = is_worker h k

-- HandFull where the hand holds a notice, and else what comes later
abbrev pub unless_full : List Notice → Option Fault → Option Fault
unless_full [] later = later
unless_full (notice ∷ rest) later = Some HandFull

abbrev pub empty_hand_refusal : List Notice → Option Fault
empty_hand_refusal [] = Some HandEmpty
empty_hand_refusal (notice ∷ rest) = None

abbrev pub hand_refusal : List Pending → Heap → Option Fault
hand_refusal [] h = None
hand_refusal (p ∷ ps) h = holds_refusal h

-- ---- batches

-- whether so many may be asked for at once, where so many are held already: at least one, and no more than there is
-- room for
abbrev pub fits : ℕ → ℕ → Bool
fits max held = nat_le 1 max && nat_le max (32 - held)

-- whether what is pending may be handed on together with p: it is for the same queue, and was cleared in the same cycle
abbrev pub goes_with : Pending → Pending → Bool
goes_with p r = (r.queue == p.queue) && (r.cycle == p.cycle)

-- the longest front of these in which all go with p
abbrev pub front_with : Pending → List Pending → List Pending
front_with p [] = []
front_with p (r ∷ rs) = if goes_with p r then r ∷ front_with p rs else []

-- what is handed on at once: the longest front, of so many at most, in which all go with the first
abbrev pub batch_of : ℕ → List Pending → List Pending
batch_of max [] = []
batch_of max (p ∷ ps) = take max (p ∷ front_with p ps)

-- NumbersSpent where fewer holds than one for each of these can be counted
abbrev pub hands_refusal : List Pending → Heap → Option Fault
hands_refusal [] h = None
hands_refusal (p ∷ ps) h = unless (nat_le (length h.holds + length (p ∷ ps)) (2 ^ 64 - 1)) NumbersSpent None

-- ---- phases

abbrev pub is_in : Phase → Phase → Bool
is_in Idle Idle = true
is_in Marking Marking = true
is_in Clearing Clearing = true
is_in Sweeping Sweeping = true
is_in Moving Moving = true
is_in phase other = false

abbrev pub in_phase : State → Phase → Option Fault → Option Fault
in_phase a phase later = unless (is_in a.world.phase phase) WrongPhase later

-- of a cycle that is to begin, in this phase, at this clock and after so many cycles
abbrev pub begin_refusal : Phase → ℕ → ℕ → ℕ → Option Fault
begin_refusal phase clock cycle now =
    unless (is_in phase Idle) WrongPhase
    (unless (nat_le clock now) ClockBack (unless (nat_lt cycle (2 ^ 64 - 1)) NumbersSpent None))

-- of a worker's step that this phase has
abbrev pub work_refusal : Heap → Phase → Phase → ℕ → Option Fault
work_refusal h now phase k = unless (is_worker h k) NoSuchActor (unless (is_in now phase) WrongPhase None)

-- of a mark's end, where it is said whether an object is left to scan
abbrev pub end_mark_refusal : Phase → Bool → Option Fault
end_mark_refusal phase left = unless (is_in phase Marking) WrongPhase (unless (not left) GreyLeft None)

-- of a choice of objects that are to move: once they were chosen, a cycle has to end first
abbrev pub select_refusal : Phase → Bool → Option Fault
select_refusal phase moved = unless (is_in phase Idle && not moved) WrongPhase None

abbrev pub is_empty : {T : Type 0} → List T → Bool
is_empty [] = true
is_empty (x ∷ xs) = false

-- ---- holds

-- of a hold of what a slot holds
abbrev pub held_refusal : Heap → Option ℕ → Option Fault
held_refusal h None = Some EmptySlot
held_refusal h (Some n) = holds_refusal h

-- whether the heap counts the hold
abbrev pub is_counted : Heap → HoldName → Bool
is_counted h hold = (hold.heap_no == h.no) && has h.holds hold.object

-- of a hold that comes back
abbrev pub hold_refusal : Heap → HoldName → Option Fault
hold_refusal h hold = unless (is_counted h hold) ForeignHold None

-- ---- the steps of a heap

-- the fault of a step that hands nothing over, or none where it is accepted
abbrev pub plain_refusal : State → PlainStep → Option Fault
plain_refusal a (plain.New m d k) = new_refusal a.world.heap a.next m d k
plain_refusal a (plain.Refer m strength d s q k) = refer_refusal a.world.heap a.next m d s q k
plain_refusal a (plain.Store m s i v) = store_refusal a.world.heap m s i v
plain_refusal a (plain.Load m d s i) = load_refusal a.world.heap m d s i
plain_refusal a (plain.Copy m d s) = copy_refusal a.world.heap m d s
plain_refusal a (plain.Drop m s) = drop_refusal a.world.heap m s
plain_refusal a (plain.Get m d s) = get_refusal a.world.heap m d s
plain_refusal a (plain.Clear m s) = clear_refusal a.world.heap m s
plain_refusal a (plain.RefersTo m s v) = get_refusal a.world.heap m v s
plain_refusal a (plain.Begin now how) = begin_refusal a.world.phase a.world.heap.clock a.world.cycle now
plain_refusal a (plain.Scan k) = work_refusal a.world.heap a.world.phase Marking k
plain_refusal a plain.EndMark = end_mark_refusal a.world.phase a.left
plain_refusal a (plain.ClearNext k) = work_refusal a.world.heap a.world.phase Clearing k
plain_refusal a plain.EndClear = in_phase a Clearing (unless (is_empty (joined a.found)) ClearingLeft None)
plain_refusal a (plain.Sweep k) = work_refusal a.world.heap a.world.phase Sweeping k
plain_refusal a plain.EndSweep = in_phase a Sweeping (unless (is_empty a.doomed) SweepLeft None)
plain_refusal a plain.Select = select_refusal a.world.phase a.moved
plain_refusal a (plain.MoveNext k) = work_refusal a.world.heap a.world.phase Moving k
plain_refusal a plain.EndMove = in_phase a Moving None

-- the fault of a step of the heap, or none where it is accepted
abbrev pub heap_refusal : State → NamedStep → Option Fault
heap_refusal a (heap.Plain step) = plain_refusal a step
heap_refusal a (heap.Unhook m s) =
    unless (has_slot a.world.heap m s) NoSuchActor (unhook_refusal a.world.heap (slot_at a.world.heap m s))
heap_refusal a (heap.Hold m s) =
    unless (has_slot a.world.heap m s) NoSuchActor (held_refusal a.world.heap (slot_at a.world.heap m s))
heap_refusal a (heap.Adopt m d hold) =
    unless (has_slot a.world.heap m d) NoSuchActor (hold_refusal a.world.heap hold)
heap_refusal a (heap.Release hold) = hold_refusal a.world.heap hold
heap_refusal a (heap.Hand k) =
    unless (is_worker a.world.heap k) NoSuchActor (hand_refusal (pending_of a.world k) a.world.heap)
heap_refusal a (heap.Hands k max batch) =
    unless (is_worker a.world.heap k) NoSuchActor
    (unless (fits max (length batch)) BadConfig
    (hands_refusal (batch_of max (pending_of a.world k)) a.world.heap))

-- ---- the steps

-- what a step of the world asks of its heap may be refused there
abbrev pub asked_refusal : State → Option NamedStep → Option Fault
asked_refusal a None = None
asked_refusal a (Some asked) = heap_refusal a asked

-- The fault of a step, or none where it is accepted. That a hand is full or empty comes behind the actor and in front
-- of what the heap refuses. A hand's notice is a hold that the heap counts, so an adopt and a release are refused for
-- their hands alone.
abbrev pub refusal : State → Step → Option Fault
refusal a (steps.Unhook m s) =
    unless (has_slot a.world.heap m s) NoSuchActor
    (unless_full (hand_of a.world (Mutator m)) (heap_refusal a (heap.Unhook m s)))
refusal a (steps.Hand k) =
    unless (is_worker a.world.heap k) NoSuchActor
    (unless_full (hand_of a.world (Worker k)) (heap_refusal a (heap.Hand k)))
refusal a (steps.Hands k max) =
    unless (is_worker a.world.heap k) NoSuchActor
    (unless (fits max (length (hand_of a.world (Worker k)))) BadConfig
    (unless_full (hand_of a.world (Worker k)) (heap_refusal a (heap.Hands k max []))))
refusal a (steps.Puts who) = unless (is_actor a.world.heap who) NoSuchActor (empty_hand_refusal (hand_of a.world who))
refusal a (steps.Put who) = unless (is_actor a.world.heap who) NoSuchActor (empty_hand_refusal (hand_of a.world who))
refusal a (steps.Poll m q) =
    unless (is_mutator a.world.heap m) NoSuchActor
    (unless (is_queue a.world.heap q) BadQueue (unless_full (hand_of a.world (Mutator m)) None))
refusal a (steps.Polls m q max) =
    unless (is_mutator a.world.heap m) NoSuchActor
    (unless (is_queue a.world.heap q) BadQueue
    (unless (fits max (length (hand_of a.world (Mutator m)))) BadConfig
    (unless_full (hand_of a.world (Mutator m)) None)))
refusal a (steps.Adopt m d) =
    unless (has_slot a.world.heap m d) NoSuchActor (empty_hand_refusal (hand_of a.world (Mutator m)))
refusal a (steps.Release who) =
    unless (is_actor a.world.heap who) NoSuchActor (empty_hand_refusal (hand_of a.world who))
refusal a (steps.Close m q) =
    unless (is_mutator a.world.heap m) NoSuchActor (unless (is_queue a.world.heap q) BadQueue None)
refusal a step = asked_refusal a (heap_step a.world step)
