-- Which states of the abstract collector a heap stands for (this project's profile).
use Rattle.std.specs.Prelude.{◌≡◌, ℕ, true, List, length, None}
use Rattle.ref_base.specs.Members.{has, AreDistinct}
use Rattle.ref_base.specs.Heaps.{reference_at}
use Rattle.ref_base.specs.Worlds.{Pending, pending_numbers}
use Rattle.ref_base.specs.Collectors.{State}
use Rattle.ref_base.specs.CollectorRows.{referent_of}
use Rattle.ref_mark.specs.CycleHeaps.{CycleHeap}
use Rattle.ref_mark.specs.Standing.{MarkStands}
use Rattle.ref_clear.specs.ClearHeaps.{ClearHeap}

-- each worker has a list of pending references; each of these stands in them once, and is cleared for good
pub record ArePending (k : CycleHeap) (pending : List (List Pending)) : Type 0 where
  pub workers : length pending ≡ k.heap.config.workers
  pub once : AreDistinct (pending_numbers pending)
  pub cleared : (n : ℕ) → has (pending_numbers pending) n ≡ true → referent_of (reference_at k.heap n) ≡ None

-- the heap stands for the state as a heap in its cycles does, and the pending references are the state's
pub record HeapStands (c : ClearHeap) (a : State) : Type 0 where
  pub mark : MarkStands c.mark a
  pub pending : a.world.pending ≡ c.pending
  pub waiting : ArePending c.mark c.pending
