-- A heap, its queues and everybody's hands, as plain data, and the changes that steps make to them (hands, pending
-- references, cycles and the order of queues: this project's profile).
use Rattle.std.specs.Prelude.{◌≡◌, ℕ, ◌+◌, List, [], ◌∷◌, ◌++◌, map, replicate, slice_index_or, slice_set}
use Rattle.ref_base.specs.Graphs.{Graph}
use Rattle.ref_base.specs.Paths.{present}
use Rattle.ref_base.specs.KeptPaths.{first_policy}
use Rattle.ref_base.specs.Heaps.{Heap, first_heap}
use Rattle.ref_base.specs.QueueLists.{Lists, new_queue, new_queues}
use Rattle.ref_base.specs.declared.config.Config.{Config}
use Rattle.ref_base.specs.declared.cause.Cause.{Cause}
use Rattle.ref_base.specs.declared.cause.Cause.TheVariants.{Cycle}
use Rattle.ref_base.specs.declared.actor.Actor.{Actor}
use Rattle.ref_base.specs.declared.actor.Actor.TheVariants.{Mutator, Worker}
use Rattle.ref_base.specs.declared.policy.Policy.{Policy}
use Rattle.ref_base.specs.declared.phase.Phase.{Phase}
use Rattle.ref_base.specs.declared.phase.Phase.TheVariants.{Idle}

-- a notice: the reference that it reports, the queue that it is for, and why there is one
pub record Notice : Type 0 where
  pub object : ℕ
  pub queue : ℕ
  pub cause : Cause

-- a reference that a worker cleared and has not handed on yet, the queue that it is registered with, and the cycle in
-- which it was cleared
pub record Pending : Type 0 where
  pub object : ℕ
  pub queue : ℕ
  pub cycle : ℕ

-- the notice that worker k gives of what is pending
abbrev pub notice_from : ℕ → Pending → Notice
notice_from k p = record { object = p.object; queue = p.queue; cause = Cycle p.cycle k }

-- A heap, the notices in the hands of mutators and workers, the queues, the pending references of each worker, the
-- policy of the cycle, its number and its phase, and how many objects were swept so far. Hands, queues and pending
-- lists stand in the order of their numbers.
pub record World : Type 0 where
  pub heap : Heap
  pub mutator_hands : List (List Notice)
  pub worker_hands : List (List Notice)
  pub queues : List (Lists Notice)
  pub pending : List (List Pending)
  pub policy : Policy
  pub cycle : ℕ
  pub phase : Phase
  pub swept : ℕ

-- at first there is nothing anywhere, with a heap of this number
abbrev pub first_world_of : Config → ℕ → World
first_world_of config number = record {
  heap = first_heap config number;
  mutator_hands = replicate config.mutators [];
  worker_hands = replicate config.workers [];
  queues = new_queues 0 config.queues;
  pending = replicate config.workers [];
  policy = first_policy config;
  cycle = 0;
  phase = Idle;
  swept = 0;
}

-- the heap of a world with queues has number 0
abbrev pub first_world : Config → World
first_world config = first_world_of config 0

-- the numbers of pending references, worker by worker
abbrev pub pending_numbers : List (List Pending) → List ℕ
pending_numbers [] = []
pending_numbers (ps ∷ rest) = map (λ p. p.object) ps ++ pending_numbers rest

-- the object graph: its roots are what slots hold, what is held, and the pending references
abbrev pub graph_of : World → Graph
graph_of w = record {
  objects = w.heap.objects;
  roots = present w.heap.slots ++ w.heap.holds ++ pending_numbers w.pending;
}

-- the two have the same hands and queues
pub record SameOthers (a b : World) : Type 0 where
  pub mutators : b.mutator_hands ≡ a.mutator_hands
  pub workers : b.worker_hands ≡ a.worker_hands
  pub queues : b.queues ≡ a.queues

-- the reference that a notice reports
abbrev pub object_of : Notice → ℕ
object_of notice = notice.object

-- ---- what is read

-- the notices in the actor's hand, first first
abbrev pub hand_of : World → Actor → List Notice
hand_of w (Mutator m) = slice_index_or w.mutator_hands m []
hand_of w (Worker k) = slice_index_or w.worker_hands k []

abbrev pub queue_at : World → ℕ → Lists Notice
queue_at w q = slice_index_or w.queues q (new_queue q)

abbrev pub pending_of : World → ℕ → List Pending
pending_of w k = slice_index_or w.pending k []

-- ---- what is changed

abbrev pub with_heap : World → Heap → World
with_heap w heap = record w { heap = heap }

abbrev pub with_hand : World → Actor → List Notice → World
with_hand w (Mutator m) hand = record w { mutator_hands = slice_set w.mutator_hands m hand }
with_hand w (Worker k) hand = record w { worker_hands = slice_set w.worker_hands k hand }

abbrev pub with_queue : World → ℕ → Lists Notice → World
with_queue w q queue = record w { queues = slice_set w.queues q queue }

-- count more objects were swept
abbrev pub with_swept : World → ℕ → World
with_swept w count = record w { swept = w.swept + count }

abbrev pub with_pending : World → ℕ → List Pending → World
with_pending w k ps = record w { pending = slice_set w.pending k ps }
