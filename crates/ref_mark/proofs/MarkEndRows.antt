-- A mark's end, where nothing is grey: what isn't marked is doomed, and all references to it are cleared at once.
use Rattle.ref_mark.proofs.Common.{arith, ◌≡◌, ℕ, true, not, List, [], ◌∷◌, length, None, is_some, has, Object}
use Rattle.ref_mark.proofs.Common.{is_there, object_at, refers_into, reference_at, reference_in, is_empty, State}
use Rattle.ref_mark.proofs.Common.{Marking, Clearing, CycleHeap, is_white, is_black, unmarked, MarkStands}
use Rattle.ref_mark.proofs.Common.{cycle_in_phase}
use Rattle.ref_base.specs.Refusals.{end_mark_refusal}
use Rattle.ref_mark.specs.Standing.{InClearing}
use Rattle.ref_base.specs.DoomedSets.{new_clears}
use Rattle.ref_base.specs.CollectorRows.{EndsMark, mark_ended}
use Rattle.ref_mark.proofs.PlainStates.{plain_state, plain_state-is}
use Rattle.ref_base.proofs.FoundLists.{AreFound-scanned, AreFound-some}
use Rattle.ref_objects.proofs.SparedLemmas.{has-unmarked}
use Rattle.ref_base.proofs.NewClears.{has-new_clears}
use Rattle.ref_mark.proofs.SafeMarks.{unmarked_may_be_doomed, unscanned_is_unmarked}
use Rattle.ref_base.specs.declared.reply.Reply.TheVariants as replies

-- what refers to something is there
pub reference_there : (os : List Object) (n : ℕ) → is_some (reference_in (object_at os n)) ≡ true
    → is_there os n ≡ true
reference_there [] n some = some
reference_there (o ∷ os) n some = grind arith

-- what isn't marked is doomed
abbrev dooms : CycleHeap → List ℕ
dooms k = unmarked k.heap.objects k.marked

-- whether a black reference is a new clear
black_cleared : (k : CycleHeap) (a : State) → MarkStands k a → (n : ℕ) → is_black k n ≡ true
    → has (new_clears k.heap.objects (dooms k)) n ≡ refers_into (is_white k) (reference_at k.heap n)
black_cleared k a stands n black = grind (arith, has-unmarked, has-new_clears)

-- the new clears are black references to white objects
new_clear_parts : (k : CycleHeap) (a : State) → MarkStands k a → k.grey ≡ [] → (n : ℕ)
    → has (new_clears k.heap.objects (dooms k)) n ≡ true
    → (is_black k n ≡ true) × (refers_into (is_white k) (reference_at k.heap n) ≡ true)
new_clear_parts k a stands none n h = grind (arith, has-new_clears, has-unmarked)

-- the state that the mark's end leaves
abbrev state_ended : CycleHeap → State → State
state_ended k a = mark_ended (plain_state k Marking a) (dooms k) k.found

ends_mark : (k : CycleHeap) (a : State) → MarkStands k a → k.phase ≡ Marking → k.grey ≡ []
    → EndsMark (plain_state k Marking a) (replies.Doomed (length (dooms k))) (state_ended k a)
ends_mark k a stands phase none = grind (arith, unscanned_is_unmarked, unmarked_may_be_doomed, new_clear_parts)

in_clearing : (k : CycleHeap) (a : State) → MarkStands k a → k.phase ≡ Marking → k.grey ≡ []
    → InClearing (cycle_in_phase k Clearing) k.found (new_clears k.heap.objects (dooms k))
in_clearing k a stands phase none = grind (arith, reference_there, AreFound-some, AreFound-scanned, black_cleared)

ended_stands : (k : CycleHeap) (a : State) → MarkStands k a → k.phase ≡ Marking → k.grey ≡ []
    → MarkStands (cycle_in_phase k Clearing) (state_ended k a)
ended_stands k a stands phase none = grind (arith, in_clearing)

-- a mark's end that isn't refused
pub end_mark_row : (k : CycleHeap) (a : State) → MarkStands k a
    → end_mark_refusal k.phase (not (is_empty k.grey)) ≡ None
    → (b : State) × EndsMark a (replies.Doomed (length (unmarked k.heap.objects k.marked))) b
    × MarkStands (cycle_in_phase k Clearing) b
end_mark_row k a stands none = grind (arith, plain_state-is, ends_mark k a stands, ended_stands k a stands)

-- outside a mark it doesn't matter what is grey
pub same_end_mark : (k : CycleHeap) (a : State) → MarkStands k a
    → end_mark_refusal a.world.phase a.left ≡ end_mark_refusal k.phase (not (is_empty k.grey))
same_end_mark k a stands = grind arith
