-- Which states of the abstract collector a world stands for, and its rows (this project's profile).
use Rattle.std.specs.Prelude.{◌≡◌, ℕ, List, Result, Ok, Err}
use Rattle.ref_base.specs.Collectors.{State}
use Rattle.ref_base.specs.CollectorRows.{IsRow, IsRun}
use Rattle.ref_base.specs.declared.config.Config.{Config}
use Rattle.ref_base.specs.declared.fault.Fault.{Fault}
use Rattle.ref_base.specs.declared.reply.Reply.{Reply}
use Rattle.ref_base.specs.declared.reply.Reply.TheVariants.{Refused}
use Rattle.ref_base.specs.declared.row.Row.{Row}
use Rattle.ref_base.specs.declared.step.Step.{Step}
use Rattle.ref_objects.specs.declared.start.Start.{Start}
use Rattle.ref_mark.specs.MarkRows.{starting_state}
use Rattle.ref_clear.specs.Standing.{HeapStands}
use Rattle.ref_world.specs.Cores.{Core, core_queue_at}
use Rattle.ref_world.specs.WorldHeaps.{heap_no_of}

-- its heap, which has number 0, stands for the state, and hands and queues are the state's
pub record Stands (c : Core) (a : State) : Type 0 where
  pub heap : HeapStands c.heap a
  pub number : heap_no_of c.heap ≡ 0
  pub mutator_hands : a.world.mutator_hands ≡ c.hands.mutators
  pub worker_hands : a.world.worker_hands ≡ c.hands.workers
  pub queues : a.world.queues ≡ c.queues

-- the step, answered so, is one row of the abstract collector, from each state that the world stands for to one for
-- which what is left stands
abbrev pub IsRowOf : Core → Step → Reply → Core → Type 0
IsRowOf old step reply new =
    (a : State) → Stands old a → (b : State) × IsRow a (record { step = step; reply = reply }) b × Stands new b

-- the step, accepted or refused as the result says, is one row of the abstract collector
abbrev pub Does : Core → Step → Result Reply Fault → Core → Type 0
Does old step (Ok reply) new = IsRowOf old step reply new
Does old step (Err fault) new = IsRowOf old step (Refused fault) new

-- what such a call answers
abbrev pub answered : Result Reply Fault → Reply
answered (Ok reply) = reply
answered (Err fault) = Refused fault

-- a run from the state of a new world, whose numbers began at any start, leads to one for which the world stands
pub record IsReached (c : Core) : Type 0 where
  pub config : Config
  pub start : Start
  pub rows : List Row
  pub state : State
  pub run : IsRun (starting_state config 0 start.obj start.cycle) rows state
  pub stands : Stands c state

-- and each queue knows its number
pub record IsSound (c : Core) : Type 0 where
  pub reached : IsReached c
  pub numbered : (q : ℕ) → (core_queue_at c q).queue ≡ q
