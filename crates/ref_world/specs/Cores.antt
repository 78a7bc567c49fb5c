-- The core, as plain data: the heap, everybody's hands and the queues (this project's profile).
use Rattle.std.specs.Prelude.{◌≡◌, ℕ, Bool, ◌&&◌, nat_lt, List, [], ◌∷◌, Option, Some, None, length, replicate}
use Rattle.std.specs.Prelude.{slice_index_or, slice_set}
use Rattle.ref_base.specs.HeapSteps.{HeldNotice}
use Rattle.ref_base.specs.Members.{rest_of}
use Rattle.ref_base.specs.QueueLists.{Lists, new_queue, new_queues}
use Rattle.ref_base.specs.Worlds.{Notice}
use Rattle.ref_base.specs.declared.actor.Actor.{Actor}
use Rattle.ref_base.specs.declared.actor.Actor.TheVariants.{Mutator, Worker}
use Rattle.ref_base.specs.declared.config.Config.{Config}
use Rattle.ref_base.specs.declared.fault.Fault.{Fault}
use Rattle.ref_base.specs.declared.fault.Fault.TheVariants.{NoSuchActor, BadConfig, BadQueue}
use Rattle.ref_base.specs.Refusals.{unless, unless_full, empty_hand_refusal, is_mutator, is_queue, fits}
use Rattle.ref_objects.specs.declared.start.Start.{Start}
use Rattle.ref_clear.specs.ClearHeaps.{first_clear_heap}
use Rattle.ref_world.specs.WorldHeaps.{WorldHeap, model_heap}

-- the notices in the hands of mutators and of workers, each in the order of their numbers
pub record Hands : Type 0 where
  pub mutators : List (List Notice)
  pub workers : List (List Notice)

-- a heap, the hands, and the queues in the order of their numbers
pub record Core : Type 0 where
  pub heap : WorldHeap
  pub hands : Hands
  pub queues : List (Lists Notice)

-- a notice, but for its heap
abbrev pub as_notice : HeldNotice → Notice
as_notice held = record { object = held.hold.object; queue = held.queue; cause = held.cause }

-- and it is of the world's own heap
abbrev pub IsOfWorld : HeldNotice → Type 0
IsOfWorld held = held.hold.heap_no ≡ 0

-- ---- at first there is nothing anywhere

abbrev pub first_hands : Config → Hands
first_hands config = record { mutators = replicate config.mutators []; workers = replicate config.workers [] }

-- the heap has number 0, and its numbers begin as they are told
abbrev pub starting_core : Config → Start → Core
starting_core config start = record {
  heap = first_clear_heap config 0 start;
  hands = first_hands config;
  queues = new_queues 0 config.queues;
}

-- where nothing is told, the first object has number 1, no cycle was before, and the first page has address 1
abbrev pub first_core : Config → Core
first_core config = starting_core config (record { obj = 1; cycle = 0; page = 1 })

-- ---- hands and queues

-- whether there is such a hand
abbrev pub has_hand : Hands → Actor → Bool
has_hand hands (Mutator m) = nat_lt m (length hands.mutators)
has_hand hands (Worker k) = nat_lt k (length hands.workers)

-- what one value or none is as a list
abbrev pub one_or_none : {T : Type 0} → Option T → List T
one_or_none None = []
one_or_none (Some x) = x ∷ []

abbrev pub hand_in : Hands → Actor → List Notice
hand_in hands (Mutator m) = slice_index_or hands.mutators m []
hand_in hands (Worker k) = slice_index_or hands.workers k []

abbrev pub with_hand_in : Hands → Actor → List Notice → Hands
with_hand_in hands (Mutator m) hand = record hands { mutators = slice_set hands.mutators m hand }
with_hand_in hands (Worker k) hand = record hands { workers = slice_set hands.workers k hand }

-- the hand without its first notice
abbrev pub with_rest_in : Hands → Actor → Hands
with_rest_in hands who = with_hand_in hands who (rest_of (hand_in hands who))

-- whether there is such a hand, and it has room for one more notice
abbrev pub has_room : Hands → Actor → Bool
has_room hands who = has_hand hands who && nat_lt (length (hand_in hands who)) 32

-- the queue that the first notice is for, if there is one
abbrev pub queue_if_any : List Notice → Option ℕ
queue_if_any [] = None
queue_if_any (notice ∷ rest) = Some notice.queue

-- of a step that fills a hand: NoSuchActor, then HandFull
abbrev pub filling_refusal : Hands → Actor → Option Fault
filling_refusal hands who = unless (has_hand hands who) NoSuchActor (unless_full (hand_in hands who) None)

-- and of one that fills it with so many at most: BadConfig comes between where they aren't one at least, or don't fit
abbrev pub filling_some_refusal : Hands → Actor → ℕ → Option Fault
filling_some_refusal hands who max =
    unless (has_hand hands who) NoSuchActor
    (unless (fits max (length (hand_in hands who))) BadConfig (unless_full (hand_in hands who) None))

-- and of one that takes its first notice: NoSuchActor, then HandEmpty
abbrev pub emptying_refusal : Hands → Actor → Option Fault
emptying_refusal hands who = unless (has_hand hands who) NoSuchActor (empty_hand_refusal (hand_in hands who))

abbrev pub core_queue_at : Core → ℕ → Lists Notice
core_queue_at c q = slice_index_or c.queues q (new_queue q)

-- BadQueue where there is no queue of this number
abbrev pub queue_refusal : Core → ℕ → Option Fault
queue_refusal c q = unless (is_queue (model_heap c.heap) q) BadQueue None

-- of a mutator that names a queue: NoSuchActor, then BadQueue
abbrev pub calling_refusal : Core → ℕ → ℕ → Option Fault
calling_refusal c m q = unless (is_mutator (model_heap c.heap) m) NoSuchActor (queue_refusal c q)
