-- A whole heap, as plain data: a heap in its cycles, and the references that its workers cleared and haven't handed on;
-- and the changes that calls make to it (package `java.lang.ref` of Java SE 17 for what clears a reference and what
-- comes of it; pending lists, notices and sweeps by 64: this project's profile).
use Rattle.std.specs.Prelude.{ℕ, if◌then◌else◌, List, [], ◌∷◌, ◌++◌, map, take, drop, replicate, Option, Some, None}
use Rattle.std.specs.Prelude.{slice_index_or, slice_set}
use Rattle.ref_base.specs.Heaps.{reference_at, registered_in, with_hold}
use Rattle.ref_base.specs.Worlds.{Pending, pending_numbers}
use Rattle.ref_base.specs.CollectorRows.{without}
use Rattle.ref_base.specs.declared.config.Config.{Config}
use Rattle.ref_base.specs.declared.urgency.Urgency.{Urgency}
use Rattle.ref_space.specs.Tables.{Tag}
use Rattle.ref_objects.specs.Grounds.{Space, vacated, without_tag}
use Rattle.ref_objects.specs.declared.start.Start.{Start}
use Rattle.ref_mark.specs.Chains.{linked_last_of}
use Rattle.ref_mark.specs.CycleHeaps.{CycleHeap, first_cycle_heap, doomed, with_cleared, with_found_taken, is_to_clear}
use Rattle.ref_mark.specs.CycleHeaps.{cut_at, cycle_begun, shaded_all}

-- a heap in its cycles, and for each worker the references that it cleared and hasn't handed on, first first
pub record ClearHeap : Type 0 where
  pub mark : CycleHeap
  pub pending : List (List Pending)

-- at first nothing is pending
abbrev pub first_clear_heap : Config → ℕ → Start → ClearHeap
first_clear_heap config number start = record {
  mark = first_cycle_heap config number start;
  pending = replicate config.workers [];
}

abbrev pub with_mark : ClearHeap → CycleHeap → ClearHeap
with_mark c k = record c { mark = k }

abbrev pub pending_at : ClearHeap → ℕ → List Pending
pending_at c w = slice_index_or c.pending w []

abbrev pub with_pending_at : ClearHeap → ℕ → List Pending → ClearHeap
with_pending_at c w ps = record c { pending = slice_set c.pending w ps }

-- there is one hold more of n
abbrev pub holding : CycleHeap → ℕ → CycleHeap
holding k n = record k { heap = with_hold k.heap n }

-- ---- a cycle's begin

-- a cycle begins: the pending references become grey last, worker by worker in list order
abbrev pub begun_with : ClearHeap → ℕ → Urgency → ClearHeap
begun_with c now urgency = with_mark c (shaded_all (cycle_begun c.mark now urgency) (pending_numbers c.pending))

-- ---- clearing

-- reference n goes last in the worker's pending list, if it is registered with a queue
abbrev pub heap_pended : ClearHeap → ℕ → ℕ → Option ℕ → ClearHeap
heap_pended c w n None = c
heap_pended c w n (Some q) = record {
  mark = record c.mark { tags = linked_last_of c.mark.tags (map (λ p. p.object) (pending_at c w)) n };
  pending = slice_set c.pending w (pending_at c w ++ record { object = n; queue = q; cycle = c.mark.cycle } ∷ []);
}

-- the worker looks at reference n, and clears it where its referent is doomed
abbrev pub heap_looked_at : ClearHeap → ℕ → ℕ → ClearHeap
heap_looked_at c w n =
    if is_to_clear c.mark n
    then heap_pended (with_mark c (cut_at c.mark n)) w n (registered_in (reference_at c.mark.heap n))
    else c

-- the worker takes the first of what it found, and looks at it
abbrev pub looked_from : ClearHeap → ℕ → List ℕ → ClearHeap
looked_from c w [] = c
looked_from c w (n ∷ rest) = heap_looked_at (with_mark c (with_found_taken c.mark w)) w n

-- ---- notices

-- the first pending reference is handed on: its notice is a hold of it
abbrev pub handed_from : ClearHeap → ℕ → List Pending → ClearHeap
handed_from c w [] = c
handed_from c w (p ∷ ps) = with_pending_at (with_mark c (holding c.mark p.object)) w ps

-- there is one hold more of each of these
abbrev pub holding_each : CycleHeap → List Pending → CycleHeap
holding_each k [] = k
holding_each k (p ∷ ps) = holding_each (holding k p.object) ps

-- the first so many are handed on, and the rest stays pending
abbrev pub handed_some : ClearHeap → ℕ → ℕ → ClearHeap
handed_some c w count =
    with_pending_at (with_mark c (holding_each c.mark (take count (pending_at c w)))) w (drop count (pending_at c w))

-- what an unhook does to the reference that the slot holds, by its queue: it clears it, and where it is registered its
-- notice is a hold of it
abbrev pub unhooked_from : CycleHeap → ℕ → ℕ → Option ℕ → Option ℕ → CycleHeap
unhooked_from k m s None queue = with_cleared k m s
unhooked_from k m s (Some n) None = with_cleared k m s
unhooked_from k m s (Some n) (Some q) = holding (with_cleared k m s) n

-- ---- the sweep

-- the tags but those of these objects
abbrev pub without_tags : List ℕ → List Tag → List Tag
without_tags [] ts = ts
without_tags (n ∷ ns) ts = without_tags ns (without_tag ts n)

-- the cells of these objects are free
abbrev pub vacated_all : List ℕ → Space → Space
vacated_all [] s = s
vacated_all (n ∷ ns) s = vacated_all ns (vacated s n)

-- the 64 doomed of least number are freed, or all
abbrev pub swept_some : CycleHeap → CycleHeap
swept_some k = record k {
  heap = record k.heap { objects = without (take 64 (doomed k)) k.heap.objects };
  tags = without_tags (take 64 (doomed k)) k.tags;
  space = vacated_all (take 64 (doomed k)) k.space;
}
