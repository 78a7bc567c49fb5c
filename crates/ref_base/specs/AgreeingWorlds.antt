-- How the world of the collector stands to the one that the rows alone give (this project's profile).
use Rattle.std.specs.Prelude.{◌≡◌, ℕ, Bool, ◌&&◌, if◌then◌else◌, List, map}
use Rattle.ref_base.specs.Members.{has}
use Rattle.ref_base.specs.Graphs.{Object}
use Rattle.ref_base.specs.Heaps.{Heap, with_reference, cleared}
use Rattle.ref_base.specs.Worlds.{World, with_heap}
use Rattle.ref_base.specs.Collectors.{State, joined}
use Rattle.ref_base.specs.Refusals.{is_in}
use Rattle.ref_base.specs.CollectorRows.{without}
use Rattle.ref_base.specs.declared.phase.Phase.TheVariants.{Clearing}

-- the object, cleared if its number is one of these
abbrev pub cleared_if : (ℕ → Bool) → Object → Object
cleared_if these o = if these o.no then with_reference cleared o else o

-- the objects but for those that are gone, and with these references cleared
abbrev pub objects_under : List ℕ → (ℕ → Bool) → List Object → List Object
objects_under gone these os = map (λ o. cleared_if these o) (without gone os)

abbrev pub heap_under : List ℕ → (ℕ → Bool) → Heap → Heap
heap_under gone these h = record h { objects = objects_under gone these h.objects }

-- the world but for these objects, and with these references cleared
abbrev pub under : List ℕ → (ℕ → Bool) → World → World
under gone these w = with_heap w (heap_under gone these w.heap)

-- while references are cleared: a reference that the mark's end cleared and that no worker has looked at since
abbrev pub is_waiting : State → ℕ → Bool
is_waiting a n = is_in a.world.phase Clearing && (has (joined a.found) n && has a.cleared n)

-- The collector's world is this one but for two things: some objects are gone, and a reference that the mark's end
-- cleared reads as cleared also before a worker has looked at it. All else is the same: slots, holds, hands, queues,
-- pending references, the clock, the cycle and its phase.
abbrev pub Agrees : List ℕ → World → State → Type 0
Agrees gone w a = a.world ≡ under gone (is_waiting a) w
