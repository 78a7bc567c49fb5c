-- The heap of a world, as plain data: what is read of it above its own layer.
use Rattle.std.specs.Prelude.{ℕ}
use Rattle.ref_base.specs.Heaps.{Heap}
use Rattle.ref_mark.specs.CycleHeaps.{CycleHeap}
use Rattle.ref_clear.specs.ClearHeaps.{ClearHeap}

-- the heap that a world has
abbrev pub WorldHeap : Type 0
WorldHeap = ClearHeap

-- its objects, slots, holds and clock
abbrev pub model_heap : WorldHeap → Heap
model_heap h = h.mark.heap

-- its number
abbrev pub heap_no_of : WorldHeap → ℕ
heap_no_of h = h.mark.heap.no

-- and how far its cycle is
abbrev pub cycles_of : WorldHeap → CycleHeap
cycles_of h = h.mark
