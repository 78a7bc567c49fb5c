-- A heap in its cycles, as plain data, and the changes that calls make to it (JEP 333: marking while mutators run, and
-- load barriers; package `java.lang.ref` of Java SE 17 for what the calls of a reference do; the order of the grey
-- list, and what is found for clearing: this project's profile).
use Rattle.std.specs.Prelude.{ℕ, ◌+◌, Bool, true, false, ◌&&◌, ◌||◌, not, if◌then◌else◌, List, [], ◌∷◌, ◌++◌, replicate}
use Rattle.std.specs.Prelude.{Option, Some, None, Result, Ok, Err, slice_set}
use Rattle.ref_base.specs.Members.{has, rest_of}
use Rattle.ref_base.specs.Graphs.{Object, is_there, numbers}
use Rattle.ref_base.specs.Paths.{present, targets_at}
use Rattle.ref_base.specs.KeptPaths.{is_kept, policy_from, first_policy}
use Rattle.ref_base.specs.DoomedSets.{refers_into}
use Rattle.ref_base.specs.Forgetting.{heap_but}
use Rattle.ref_base.specs.Heaps.{Heap, first_heap, slot_at, reference_at, one_more, with_slot, made, got, cut}
use Rattle.ref_base.specs.Heaps.{with_clock, with_changed, with_reference, cleared}
use Rattle.ref_base.specs.CollectorRows.{reference_of, referent_of, referent_got, is_same, list_at, emptied, without}
use Rattle.ref_base.specs.CollectorRows.{free_cells}
use Rattle.ref_base.specs.Refusals.{is_in, is_empty}
use Rattle.ref_base.specs.declared.config.Config.{Config}
use Rattle.ref_base.specs.declared.phase.Phase.{Phase}
use Rattle.ref_base.specs.declared.fault.Fault.{Fault}
use Rattle.ref_base.specs.declared.phase.Phase.TheVariants.{Idle, Marking, Clearing, Sweeping, Moving}
use Rattle.ref_base.specs.declared.policy.Policy.{Policy}
use Rattle.ref_base.specs.declared.urgency.Urgency.{Urgency}
use Rattle.ref_space.specs.Tables.{Tag}
use Rattle.ref_space.specs.ColouredWords.{cycle_colour}
use Rattle.ref_space.specs.Worklists.{first_in}
use Rattle.ref_objects.specs.Grounds.{unmarked, with_new_tag, without_tag, with_cleared_tag}
use Rattle.ref_objects.specs.Grounds.{Space, first_space, occupied, vacated, coloured_anew, healed, brought}
use Rattle.ref_objects.specs.Grounds.{choice_in, with_choice, with_choice_ended}
use Rattle.ref_objects.specs.declared.start.Start.{Start}
use Rattle.ref_mark.specs.Chains.{linked_last_of}

-- A heap, the number of its next object; the objects that the cycle has reached, or that were made in it
-- once it had begun; the tag of each object; where the objects lie; the grey list: those of the reached that are still
-- to be scanned, in order; for each worker the references that it found, and that weren't looked at since; the phase,
-- the policy of the cycle, and its number.
pub record CycleHeap : Type 0 where
  pub heap : Heap
  pub next : ℕ
  pub marked : List ℕ
  pub tags : List Tag
  pub space : Space
  pub grey : List ℕ
  pub found : List (List ℕ)
  pub phase : Phase
  pub policy : Policy
  pub cycle : ℕ

-- at first there is nothing, and numbers begin so
abbrev pub first_cycle_heap : Config → ℕ → Start → CycleHeap
first_cycle_heap config number start = record {
  heap = first_heap config number;
  next = start.obj;
  marked = [];
  tags = [];
  space = first_space config.cells start;
  grey = [];
  found = replicate config.workers [];
  phase = Idle;
  policy = first_policy config;
  cycle = start.cycle;
}

-- ---- colours

-- an object is white that the cycle hasn't reached
abbrev pub is_white : CycleHeap → ℕ → Bool
is_white k n = is_there k.heap.objects n && not (has k.marked n)

-- an object is black that it has reached, and that isn't to be scanned any more
abbrev pub is_black : CycleHeap → ℕ → Bool
is_black k n = is_there k.heap.objects n && (has k.marked n && not (has k.grey n))

-- a white object becomes grey, and the last of the grey list
abbrev pub shaded : CycleHeap → ℕ → CycleHeap
shaded k n = if is_white k n then record k { marked = one_more k.marked n; grey = k.grey ++ n ∷ [] } else k

abbrev pub shaded_all : CycleHeap → List ℕ → CycleHeap
shaded_all k [] = k
shaded_all k (n ∷ ns) = shaded_all (shaded k n) ns

abbrev pub shaded_if_any : CycleHeap → Option ℕ → CycleHeap
shaded_if_any k None = k
shaded_if_any k (Some n) = shaded k n

-- a white object becomes black
abbrev pub blackened : CycleHeap → ℕ → CycleHeap
blackened k n = if is_white k n then record k { marked = one_more k.marked n } else k

-- ---- the doomed

-- whether a mark has ended, and what it doomed isn't all swept
abbrev pub is_past_mark : Phase → Bool
is_past_mark phase = is_in phase Clearing || is_in phase Sweeping

-- whether a cycle has begun, and has not ended: while objects move none has
abbrev pub is_in_cycle : Phase → Bool
is_in_cycle Idle = false
is_in_cycle Marking = true
is_in_cycle Clearing = true
is_in_cycle Sweeping = true
is_in_cycle Moving = false

-- an object is doomed that is white once the mark has ended
abbrev pub is_doomed : CycleHeap → ℕ → Bool
is_doomed k n = is_past_mark k.phase && is_white k n

-- the doomed, in order
abbrev pub doomed : CycleHeap → List ℕ
doomed k = if is_past_mark k.phase then unmarked k.heap.objects k.marked else []

-- a doomed referent reads as null
abbrev pub undoomed : CycleHeap → Option ℕ → Option ℕ
undoomed k None = None
undoomed k (Some n) = if is_doomed k n then None else Some n

-- ---- mutators

-- the load barrier: in a mark, a white object that is loaded becomes grey
abbrev pub barred : CycleHeap → Option ℕ → CycleHeap
barred k value = if is_in k.phase Marking then shaded_if_any k value else k

-- what is made in a cycle that has begun is black from the start
abbrev pub young : CycleHeap → ℕ → CycleHeap
young k n = if is_in_cycle k.phase then blackened k n else k

-- one more object, in the slot
abbrev pub with_made : CycleHeap → ℕ → ℕ → Object → CycleHeap
with_made k m d o =
    young (record k {
      heap = made k.heap m d o;
      next = k.next + 1;
      tags = with_new_tag k.tags o.no;
      space = occupied k.space o.no;
    }) o.no

-- what is handed out has moved first, where it was still to move
abbrev pub cycle_brought : CycleHeap → Option ℕ → CycleHeap
cycle_brought k value = record k { space = brought k.space value }

-- the slot holds what was loaded
abbrev pub loaded : CycleHeap → ℕ → ℕ → Option ℕ → CycleHeap
loaded k m d value =
    let after = barred (cycle_brought k value) value in record after { heap = with_slot after.heap m d value }

-- what a get of the reference in the slot answers: nothing of a phantom reference, and else the referent, as it reads
abbrev pub value_got : CycleHeap → ℕ → ℕ → Option ℕ
value_got k m s = undoomed k (referent_got (reference_of k.heap (slot_at k.heap m s)))

-- slot d holds what was got, which renews the stamp of a soft reference
abbrev pub with_got : CycleHeap → ℕ → ℕ → ℕ → Option ℕ → CycleHeap
with_got k m d s value =
    let after = barred (cycle_brought k value) value in record after { heap = got after.heap m d s value }

-- a clear: of a reference whose referent is doomed nothing is left to clear but for its worker
abbrev pub with_cleared : CycleHeap → ℕ → ℕ → CycleHeap
with_cleared k m s =
    if refers_into (is_doomed k) (reference_of k.heap
    (slot_at k.heap m s)) then k else record k { heap = cut k.heap m s }

-- whether the reference in slot s reads as what slot v holds
abbrev pub reads_same : CycleHeap → ℕ → ℕ → ℕ → Bool
reads_same k m s v =
    is_same (undoomed k (referent_of (reference_of k.heap (slot_at k.heap m s)))) (slot_at k.heap m v)

-- ---- the cycle

-- the objects that slots hold, mutator by mutator and slot by slot, and then those that are held, by number
abbrev pub roots_of : Heap → List ℕ
roots_of h = present h.slots ++ h.holds

-- all objects are white, another colour is good, and the cycle's policy is settled by the cells that are free now
abbrev pub whitened : CycleHeap → ℕ → Urgency → CycleHeap
whitened k now urgency = record k {
  heap = with_clock k.heap now;
  marked = [];
  space = coloured_anew k.space (cycle_colour (k.cycle + 1)) (numbers k.heap.objects);
  grey = [];
  found = emptied k.found;
  phase = Marking;
  policy = policy_from k.heap.config (free_cells k.heap) now urgency;
  cycle = k.cycle + 1;
}

-- a cycle begins: all objects are white, and then the roots become grey
abbrev pub cycle_begun : CycleHeap → ℕ → Urgency → CycleHeap
cycle_begun k now urgency = shaded_all (whitened k now urgency) (roots_of k.heap)

-- the worker found the reference, if its referent is still white: it goes last in the worker's list
abbrev pub with_found : CycleHeap → ℕ → ℕ → CycleHeap
with_found k w n =
    if refers_into (is_white k) (reference_at k.heap n)
    then record k {
      found = slice_set k.found w (list_at k.found w ++ n ∷ []);
      tags = linked_last_of k.tags (list_at k.found w) n;
    }
    else k

-- each word of an object has the good colour
abbrev pub cycle_healed : CycleHeap → ℕ → CycleHeap
cycle_healed k n = record k { space = healed k.space n }

-- the first of the grey list becomes black and is healed, and what its fields and it, as a kept soft reference, refer
-- to becomes grey
abbrev pub grey_scanned : CycleHeap → ℕ → List ℕ → CycleHeap
grey_scanned k w [] = k
grey_scanned k w (n ∷ rest) =
    with_found (shaded_all (cycle_healed (record k { grey = rest }) n)
    (targets_at (is_kept k.policy) k.heap.objects n)) w n

abbrev pub scanned : CycleHeap → ℕ → CycleHeap
scanned k w = grey_scanned k w k.grey

-- a phase begins
abbrev pub cycle_in_phase : CycleHeap → Phase → CycleHeap
cycle_in_phase k phase = record k { phase = phase }

-- a sweep begins: what the doomed refer to is forgotten
abbrev pub sweep_begun : CycleHeap → CycleHeap
sweep_begun k = record k { heap = heap_but (unmarked k.heap.objects k.marked) k.heap; phase = Sweeping }

-- the first that the worker found goes from its list
abbrev pub with_found_taken : CycleHeap → ℕ → CycleHeap
with_found_taken k w = record k { found = slice_set k.found w (rest_of (list_at k.found w)) }

-- whether n is a reference to the doomed
abbrev pub is_to_clear : CycleHeap → ℕ → Bool
is_to_clear k n = refers_into (is_doomed k) (reference_at k.heap n)

-- reference n is cleared, in this cycle
abbrev pub cut_at : CycleHeap → ℕ → CycleHeap
cut_at k n = record k {
  heap = with_changed k.heap n (with_reference cleared);
  tags = with_cleared_tag k.tags n k.cycle;
}

-- the first that the worker found is looked at: it is cleared where its referent is doomed
abbrev pub found_looked_at : CycleHeap → ℕ → List ℕ → CycleHeap
found_looked_at k w [] = with_found_taken k w
found_looked_at k w (n ∷ rest) = if is_to_clear k n then cut_at (with_found_taken k w) n else with_found_taken k w

-- an object is due to be swept that is doomed once a sweep has begun
abbrev pub is_due : CycleHeap → ℕ → Bool
is_due k n = is_in k.phase Sweeping && is_white k n

-- a sweep frees it, unless somebody holds it
abbrev pub is_swept : CycleHeap → ℕ → Bool
is_swept k n = is_due k n && not (has k.heap.holds n)

abbrev pub swept : CycleHeap → ℕ → CycleHeap
swept k n =
    if is_swept k n
    then record k {
      heap = record k.heap { objects = without (n ∷ []) k.heap.objects };
      tags = without_tag k.tags n;
      space = vacated k.space n;
    }
    else k

-- a cycle ends, and with it what was chosen to move
abbrev pub cycle_ended : CycleHeap → CycleHeap
cycle_ended k = record k { space = with_choice_ended k.space; phase = Idle }

-- ---- moves

-- objects are chosen to move, and move in the phase that begins, unless none is chosen
abbrev pub chosen_by : CycleHeap → Result ℕ Fault → CycleHeap
chosen_by k (Ok count) = record k { space = with_choice k.space; phase = Moving }
chosen_by k (Err fault) = k

abbrev pub moves_begun : CycleHeap → CycleHeap
moves_begun k = chosen_by k (choice_in k.space)

-- an object that is there
abbrev pub only_there : CycleHeap → Option ℕ → Option ℕ
only_there k None = None
only_there k (Some n) = if is_there k.heap.objects n then Some n else None

-- the next object to move
abbrev pub next_to_move : CycleHeap → Option ℕ
next_to_move k = only_there k (first_in k.space.still_to_move)

-- moves end once no object is still to move
abbrev pub moves_ended : CycleHeap → CycleHeap
moves_ended k = if is_empty k.space.still_to_move then cycle_in_phase k Idle else k
