-- That the calls of a heap in its cycles are rows of the abstract collector.
use Rattle.std.specs.Prelude.{◌≡◌, ℕ, true, []}
use Rattle.ref_base.specs.Members.{has}
use Rattle.ref_base.specs.Heaps.{with_hold}
use Rattle.ref_base.specs.Worlds.{first_world_of, graph_of}
use Rattle.ref_base.specs.Collectors.{State, first_state_of}
use Rattle.ref_base.specs.HeapSteps.{NamedStep}
use Rattle.ref_base.specs.CollectorRows.{IsHeapRow, ticked, on_heap}
use Rattle.ref_base.specs.declared.config.Config.{Config}
use Rattle.ref_objects.specs.Grounds.{mint_refusal}
use Rattle.ref_mark.specs.CycleHeaps.{CycleHeap, shaded_all}
use Rattle.ref_mark.specs.MarkCalls.{refusal_in_cycle, answer_in_cycle, after_in_cycle, late_roots, unless_refused}
use Rattle.ref_mark.specs.MarkCalls.{after_mint_in}
use Rattle.ref_mark.specs.MarkViews.{ground_of}
use Rattle.ref_mark.specs.Standing.{MarkStands}

-- the first state of a heap of this number, where objects and cycles are numbered from these on
abbrev pub starting_state : Config → ℕ → ℕ → ℕ → State
starting_state config number obj cycle = record (first_state_of config number) {
  world = record (first_world_of config number) { cycle = cycle };
  next = obj;
  born = obj;
}

-- For each state that the heap stands for, the answered step is a row of the abstract collector, to a state that the
-- heap then stands for, once the roots are shaded too that the layer above has.
abbrev pub IsMarkRowOf : CycleHeap → NamedStep → Type 0
IsMarkRowOf k step =
    (a : State) → MarkStands k a
    → (b : State) × IsHeapRow a step (answer_in_cycle k step) b
    × MarkStands (shaded_all (after_in_cycle k step)
    (unless_refused (refusal_in_cycle k step) (λ fault. []) (late_roots a step))) b

-- The collector has no row for a mint. For each state that the heap stands for, in which a root names the object, it
-- then stands for the state with one more hold of it, at the next moment; and for the same state where it is refused.
abbrev pub KeepsStanding : CycleHeap → ℕ → Type 0
KeepsStanding k n =
    (a : State) → MarkStands k a → has (graph_of a.world).roots n ≡ true
    → MarkStands (after_mint_in k n)
    (unless_refused (mint_refusal (ground_of k) n) (λ fault. a) (ticked (on_heap a (with_hold a.world.heap n))))
