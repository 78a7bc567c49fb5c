-- The heap's own machine, one step of it in one turn (this project's profile).
use Rattle.ref_base.specs.Collectors.{State}
use Rattle.ref_base.specs.CollectorRows.{IsHeapRow}
use Rattle.ref_base.specs.HeapSteps.{NamedStep}
use Rattle.ref_clear.specs.ClearCalls.{HeapDoes}
use Rattle.ref_clear.specs.ClearHeaps.{ClearHeap}
use Rattle.ref_world.specs.HeapReplies.{told_reply, GivesOut}
use Rattle.ref_world.specs.HeapReplies.{HeapAnswer}
use Rattle.ref_world.specs.WorldHeaps.{heap_no_of}

-- the step, with this reply, is a row of the heap's machine, and gives out what such a step gives
pub record IsHeapTurn (x : State) (step : NamedStep) (reply : HeapAnswer) (y : State) : Type 0 where
  pub row : IsHeapRow x step (told_reply reply) y
  pub gives : GivesOut x.world.heap.no step reply

-- what the step does to the heap itself, and what it gives out
pub record Acts (c : ClearHeap) (step : NamedStep) (reply : HeapAnswer) (d : ClearHeap) : Type 0 where
  pub does : HeapDoes c step (told_reply reply) d
  pub gives : GivesOut (heap_no_of c) step reply
