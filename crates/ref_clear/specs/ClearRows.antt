-- That the calls of a heap are rows of the abstract collector, in every phase.
use Rattle.ref_base.specs.Collectors.{State}
use Rattle.ref_base.specs.HeapSteps.{NamedStep}
use Rattle.ref_base.specs.CollectorRows.{IsHeapRow}
use Rattle.ref_clear.specs.ClearHeaps.{ClearHeap}
use Rattle.ref_clear.specs.ClearCalls.{answer_in, after_in}
use Rattle.ref_clear.specs.Standing.{HeapStands}

-- For each state that the heap stands for, the answered step is a row of the abstract collector, to a state that the
-- heap then stands for.
abbrev pub IsHeapRowOf : ClearHeap → NamedStep → Type 0
IsHeapRowOf c step =
    (a : State) → HeapStands c a
    → (b : State) × IsHeapRow a step (answer_in c step) b × HeapStands (after_in c step) b
