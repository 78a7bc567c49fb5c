-- Before a mark has ended mutators read the heap as it is, and a state that it stands for has the heap's own parts.
use Rattle.ref_mark.proofs.Common.{arith, ◌≡◌, ℕ, ◌≤◌, false, not, List, [], length, Heap, IsOrderly, graph_of}
use Rattle.ref_mark.proofs.Common.{is_empty, State, Policy, Phase, Marking, CycleHeap, is_past_mark, AreThere}
use Rattle.ref_mark.proofs.Common.{MarkStands}
use Rattle.ref_mark.proofs.Agreeing.{same_before}
use Rattle.ref_mark.proofs.Shading.{MarkingBut}
use Rattle.ref_mark.proofs.DoomedLists.{shown_heap-before}
use Rattle.ref_mark.proofs.HealedMarks.{AreUnscanned, unscanned_healed}

-- ---- the parts that a state has of the heap that stands for it

abbrev pub state_from : State → Heap → Policy → ℕ → Phase → ℕ → List ℕ → State
state_from a h policy cycle phase next doomed_ones = record a {
  world = record a.world { heap = h; policy = policy; cycle = cycle; phase = phase };
  next = next;
  doomed = doomed_ones;
}

-- the state in this phase, with the heap's parts
abbrev pub plain_state : CycleHeap → Phase → State → State
plain_state k phase a = state_from a k.heap k.policy k.cycle phase k.next []

pub plain_state-is : (k : CycleHeap) (a : State) (phase : Phase) → MarkStands k a → k.phase ≡ phase
    → is_past_mark phase ≡ false → a ≡ plain_state k phase a
plain_state-is k a phase stands is before = grind (arith, same_before, shown_heap-before)

-- ---- standing in a mark

-- In a mark the heap stands for a state with its parts, where what holds in a mark does, and where it is said that an
-- object is left exactly where one is grey.
pub marking_stands : (k : CycleHeap) (a : State) → k.phase ≡ Marking → a ≡ plain_state k Marking a
    → a.left ≡ not (is_empty k.grey) → a.born ≤ k.next → IsOrderly k.heap k.next
    → length a.scanned ≡ k.heap.config.workers → length k.found ≡ k.heap.config.workers
    → AreThere k (graph_of a.world).roots → AreUnscanned k a.born a.scanned
    → a.moved ≡ k.space.has_choice → MarkingBut k a [] [] → MarkStands k a
marking_stands k a phase plain left born orderly scanners finders there unscanned moved but =
    grind (arith, shown_heap-before, unscanned_healed)

-- a mark that is under way is so in its plain state
pub plain_marking : (k : CycleHeap) (a : State) → MarkStands k a → k.phase ≡ Marking
    → MarkingBut k (plain_state k Marking a) [] []
plain_marking k a stands phase = grind arith
