-- What a contract sees of a heap's fields, and what holds of them.
use Rattle.std.specs.Prelude.{◌≡◌, ℕ, ◌+◌, ◌-◌, ◌^◌, ◌≤◌, Bool, true, false, not, List, [], ◌∷◌, length, map}
use Rattle.std.specs.Prelude.{take, drop, Option, Some, None, IsSome}
use Rattle.std.specs.Option.{unwrap_or}
use Rattle.ref_base.specs.Members.{has}
use Rattle.ref_base.specs.Graphs.{Object, numbers, object_at}
use Rattle.ref_base.specs.Strengths.{IsRising}
use Rattle.ref_base.specs.Heaps.{reference_in, registered_in}
use Rattle.ref_base.specs.Worlds.{Pending}
use Rattle.ref_base.specs.Refusals.{is_in, is_worker, goes_with, front_with}
use Rattle.ref_base.specs.declared.heap_step.HeapStep.TheVariants.{Hand}
use Rattle.ref_base.specs.declared.reply.Reply.{Reply}
use Rattle.ref_base.specs.declared.reply.Reply.TheVariants.{Nothing}
use Rattle.ref_base.specs.Collectors.{State, joined}
use Rattle.ref_base.specs.declared.phase.Phase.TheVariants.{Sweeping}
use Rattle.ref_space.specs.Worklists.{Worklist}
use Rattle.ref_space.specs.Tables.{Tag}
use Rattle.ref_objects.specs.Grounds.{Ground, cleared_in_at}
use Rattle.ref_space.specs.declared.linked.Linked.{Linked}
use Rattle.ref_mark.specs.CycleHeaps.{CycleHeap, is_white}
use Rattle.ref_mark.specs.declared.chain.Chain.{Chain}
use Rattle.ref_mark.specs.Chains.{AreChains, IsChain, listed, lists_of}
use Rattle.ref_clear.specs.ClearCalls.{HeapDoes}
use Rattle.ref_clear.specs.ClearHeaps.{ClearHeap, pending_at}
use Rattle.ref_clear.specs.Standing.{HeapStands}

abbrev pub first_pending : List Pending → Option Pending
first_pending [] = None
first_pending (p ∷ ps) = Some p

-- the one at this place, from 0 on
abbrev pub pending_from : List Pending → ℕ → Option Pending
pending_from ps place = first_pending (drop place ps)

-- what is told of a pending reference by what its list has of it: its queue, and the cycle in which it was cleared
abbrev pub pending_by : Linked → Pending
pending_by l =
    record { object = l.no; queue = unwrap_or (registered_in l.reference) 0; cycle = l.cleared_in }

-- what is told of pending reference n by its object and its tag
abbrev pub pending_in : List Object → List Tag → ℕ → Pending
pending_in os ts n = record {
  object = n;
  queue = unwrap_or (registered_in (reference_in (object_at os n))) 0;
  cycle = cleared_in_at ts n;
}

-- the pending references of these numbers
abbrev pub pendings_in : List Object → List Tag → List ℕ → List Pending
pendings_in os ts ns = map (pending_in os ts) ns

-- and those of each of the lists
abbrev pub pending_lists_of : List Object → List Tag → List (List ℕ) → List (List Pending)
pending_lists_of os ts [] = []
pending_lists_of os ts (ns ∷ lists) = pendings_in os ts ns ∷ pending_lists_of os ts lists

-- the heap in which references of these numbers are pending
abbrev pub seen_lists : CycleHeap → List (List ℕ) → ClearHeap
seen_lists k lists = record { mark = k; pending = pending_lists_of k.heap.objects k.tags lists }

-- the numbers in each of the chains
abbrev pub lists_in : CycleHeap → List Chain → List (List ℕ)
lists_in k chains = lists_of k.tags k.heap.config.cells chains

abbrev pub seen_heap : CycleHeap → List Chain → ClearHeap
seen_heap k chains = seen_lists k (lists_in k chains)

-- each number in the lists is that of a reference that is registered with a queue
abbrev pub AreRegistered : List Object → List (List ℕ) → Type 0
AreRegistered os lists =
    (n : ℕ) → has (joined lists) n ≡ true → IsSome (registered_in (reference_in (object_at os n)))

-- numbers rise, and each white object's is among them
pub record ListWhite (k : CycleHeap) (condemned : List ℕ) : Type 0 where
  pub rising : IsRising condemned
  pub all : (n : ℕ) → is_white k n ≡ true → has condemned n ≡ true

-- The heap stands for some state of the abstract collector; what is pending is registered with a queue; and once a
-- sweep has begun what is left to free stands in the list of the condemned, in order of number.
pub record AreSoundLists (k : CycleHeap) (lists : List (List ℕ)) (condemned : List ℕ) : Type 0 where
  pub registered : AreRegistered k.heap.objects lists
  pub stands : (a : State) × HeapStands (seen_lists k lists) a
  pub listed : is_in k.phase Sweeping ≡ true → ListWhite k condemned

-- a chain of references that are registered with a queue
pub record IsPendingChain (g : Ground) (c : Chain) : Type 0 where
  pub linked : IsChain g.tags g.heap.config.cells c
  pub registered : AreRegistered g.heap.objects (listed g.tags g.heap.config.cells c ∷ [])

-- how many of these, from the first on and at most so many, go with one
abbrev pub front_count : Pending → ℕ → List Pending → ℕ
front_count p max ps = length (take max (front_with p ps))

-- whether r goes with the one told, if one is
abbrev pub may_go : Option Pending → Pending → Bool
may_go None r = true
may_go (Some p) r = goes_with p r

-- whether there is a first of these, and it doesn't
abbrev pub stays_behind : Option Pending → List Pending → Bool
stays_behind with [] = false
stays_behind with (r ∷ rs) = not (may_go with r)

-- a hand of the first that is pending, if it goes with the one told: else nothing is done
pub record HandsNext (c : ClearHeap) (w : ℕ) (with : Option Pending) (reply : Reply) (d : ClearHeap) : Type 0 where
  pub hands : stays_behind with (pending_at c w) ≡ false → HeapDoes c (Hand w) reply d
  pub stays : stays_behind with (pending_at c w) ≡ true → (reply ≡ Nothing) × (d ≡ c)

-- count of the worker's pending references may be handed on
pub record MayHandOn (c : ClearHeap) (w count : ℕ) : Type 0 where
  pub there : is_worker c.mark.heap w ≡ true
  pub pending : count ≤ length (pending_at c w)
  pub holds : length c.mark.heap.holds + count ≤ 2 ^ 64 - 1

-- what workers found isn't pending
abbrev pub AreApart : CycleHeap → List (List ℕ) → Type 0
AreApart k lists = (n : ℕ) → has (joined k.found) n ≡ true → has (joined lists) n ≡ false

-- The lists of pending references are chains, through which nothing leads that is still to be looked at; and the list
-- of the condemned has room for as many as there are cells.
pub record IsSoundHeap (k : CycleHeap) (chains : List Chain) (condemned : Worklist) : Type 0 where
  pub linked : AreChains k.tags k.heap.config.cells chains
  pub apart : AreApart k (lists_in k chains)
  pub lists : AreSoundLists k (lists_in k chains) condemned.stands
  pub fits : k.heap.config.cells ≤ condemned.room

-- once a sweep has begun, what is doomed is held by nobody, and stands in this list, in order of number
pub record MaySweep (k : CycleHeap) (condemned : List ℕ) : Type 0 where
  pub sweeping : is_in k.phase Sweeping ≡ true
  pub rising : IsRising (numbers k.heap.objects)
  pub free : (n : ℕ) → is_white k n ≡ true → has k.heap.holds n ≡ false
  pub listed : ListWhite k condemned
