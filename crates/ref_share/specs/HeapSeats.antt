-- The seats of a shared heap (this project's profile).
use Rattle.std.specs.Prelude.{◌≡◌, ℕ, List}
use Rattle.ref_base.specs.Collectors.{State, first_state_of}
use Rattle.ref_base.specs.HeapSteps.{NamedStep}
use Rattle.ref_base.specs.declared.config.Config.{Config}
use Rattle.ref_clear.specs.ClearHeaps.{ClearHeap}
use Rattle.ref_clear.specs.Standing.{HeapStands}
use Rattle.ref_turn.specs.History.{Leads}
use Rattle.ref_turn.specs.Turns.{view}
use Rattle.ref_turn.specs.declared.history.Entry.{Entry}
use Rattle.ref_turn.specs.declared.history.View.{View}
use Rattle.ref_world.specs.HeapReplies.{HeapAnswer}
use Rattle.ref_share.specs.HeapMachines.{IsHeapTurn}
use Rattle.ref_share.specs.SharedSeats.{IsSeatIn}
use Rattle.ref_share.specs.StartedSeats.{IsFirstFrom, IsLeftFrom}
use Rattle.ref_share.specs.declared.shared.SeatFor.{SeatFor}
use Rattle.ref_share.specs.declared.shared.Shared.{Shared}
use Rattle.ref_share.specs.declared.shared_heap.HeapFrame.{HeapFrame}

abbrev pub SharedHeap : Type 0 → Type 0
SharedHeap A = Shared ClearHeap A NamedStep HeapAnswer HeapFrame

abbrev pub HeapSeat : Type 0
HeapSeat = SeatFor ClearHeap NamedStep HeapAnswer HeapFrame

abbrev pub HeapView : Type 0
HeapView = View ClearHeap NamedStep HeapAnswer

-- one call in the history of a heap: the number of the seat that made it, its step and its reply
abbrev pub HeapEntry : Type 0
HeapEntry = Entry NamedStep HeapAnswer

-- what a seat knows
abbrev pub heap_view : HeapSeat → HeapView
heap_view s = view s.seat

-- the calls are a run of the heap's machine, from its first state
abbrev pub IsHeapRun : Config → ℕ → List HeapEntry → State → Type 0
IsHeapRun config number calls last = Leads IsHeapTurn (first_state_of config number) calls last

-- the state in which a shared heap began
abbrev pub heap_start : HeapFrame → State
heap_start f = first_state_of f.config f.heap_no

module _ {A : Type 0} (heap : SharedHeap A) where
  -- the seat is one of this heap, and what it has seen is a run of the heap's machine from its first state
  abbrev pub IsHeapSeat : HeapSeat → Type 0
  IsHeapSeat s = IsSeatIn HeapStands IsHeapTurn heap_start heap s

  -- the heap was just made, so, with its first seat
  pub record IsNewHeap (config : Config) (number first : ℕ) (s : HeapSeat) : Type 0 where
    pub config_is : heap.frame.config ≡ config
    pub number_is : heap.frame.heap_no ≡ number
    pub seat : IsFirstFrom HeapStands IsHeapTurn heap.turn (first_state_of config number) first s.seat

  -- a run of the heap's machine that begins with what was seen leaves the heap
  abbrev pub LeavesHeap : HeapView → ClearHeap → Type 0
  LeavesHeap v c = IsLeftFrom HeapStands IsHeapTurn (heap_start heap.frame) v c
