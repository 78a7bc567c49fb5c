-- Which states of the abstract collector a heap in its cycles stands for (this project's profile, in the manner of JEP
-- 333: the invariant of three colours).
use Rattle.std.specs.Prelude.{◌≡◌, ℕ, ◌<◌, ◌≤◌, Bool, true, false, not, if◌then◌else◌, ◌⊎◌, List, [], length, map}
use Rattle.ref_base.specs.Members.{has, AreDistinct}
use Rattle.ref_base.specs.Graphs.{Graph, is_there}
use Rattle.ref_base.specs.Paths.{targets_at, soft_and_weak_referents}
use Rattle.ref_base.specs.KeptPaths.{is_kept, EverKept}
use Rattle.ref_base.specs.DoomedSets.{refers_into}
use Rattle.ref_base.specs.Heaps.{Heap, reference_at}
use Rattle.ref_base.specs.Orderly.{IsOrderly}
use Rattle.ref_base.specs.Worlds.{graph_of}
use Rattle.ref_base.specs.Refusals.{is_in, is_empty}
use Rattle.ref_base.specs.Collectors.{State, joined}
use Rattle.ref_base.specs.CollectorRows.{shown, AreFound}
use Rattle.ref_base.specs.Forgetting.{heap_but}
use Rattle.ref_base.specs.declared.phase.Phase.TheVariants.{Marking, Clearing, Sweeping}
use Rattle.ref_mark.specs.CycleHeaps.{CycleHeap, is_white, is_black, is_in_cycle, is_due, doomed}

-- ---- the heap as it is read

-- the heap as mutators read it: a reference to the doomed is cleared
abbrev pub shown_heap : CycleHeap → Heap
shown_heap k = record k.heap { objects = map (λ o. shown (doomed k) o) k.heap.objects }

-- while a sweep goes on, nothing is said of what the doomed refer to
abbrev pub unsaid : CycleHeap → List ℕ
unsaid k = if is_in k.phase Sweeping then doomed k else []

-- the heap reads as this one, but for what isn't said
abbrev pub ReadsAs : CycleHeap → Heap → Type 0
ReadsAs k h = heap_but (unsaid k) h ≡ heap_but (unsaid k) (shown_heap k)

-- ---- colours

-- Once a cycle has begun, what a root names isn't white, nor does a strong field or kept soft reference of a black
-- object lead to a white one, but for some numbers that are still to be shaded.
pub record FactsBut (k : CycleHeap) (roots todo : List ℕ) : Type 0 where
  pub rooted : (n : ℕ) → has roots n ≡ true → (is_white k n ≡ false) ⊎ (has todo n ≡ true)
  pub closed :
      (m n : ℕ) → is_black k m ≡ true → has (targets_at (is_kept k.policy) k.heap.objects m) n ≡ true
      → (is_white k n ≡ false) ⊎ (has todo n ≡ true)

-- In a mark, the grey list has objects that were made before the cycle, each once; of those that were made before it,
-- the black ones are those that a row of the cycle scanned; and what was made since is marked.
pub record Coloured (k : CycleHeap) (born : ℕ) (scanned : List (List ℕ)) : Type 0 where
  pub distinct : AreDistinct k.grey
  pub grey_there : (n : ℕ) → has k.grey n ≡ true → is_there k.heap.objects n ≡ true
  pub grey_marked : (n : ℕ) → has k.grey n ≡ true → has k.marked n ≡ true
  pub grey_old : (n : ℕ) → has k.grey n ≡ true → n < born
  pub scanned_black :
      (n : ℕ) → has (joined scanned) n ≡ true → (has k.marked n ≡ true) × (has k.grey n ≡ false)
  pub black_scanned : (n : ℕ) → n < born → is_black k n ≡ true → has (joined scanned) n ≡ true
  pub since : (n : ℕ) → is_there k.heap.objects n ≡ true → born ≤ n → has k.marked n ≡ true

-- in a mark, what is marked was ever kept, and what this leads to was ever kept
pub record Reached (k : CycleHeap) (moments : List Graph) : Type 0 where
  pub marked_ever :
      (n : ℕ) → is_there k.heap.objects n ≡ true → has k.marked n ≡ true → EverKept k.policy moments n
  pub goes_on :
      (m n : ℕ) → EverKept k.policy moments m
      → has (targets_at (is_kept k.policy) k.heap.objects m) n ≡ true → is_there k.heap.objects n ≡ true
      → EverKept k.policy moments n

-- in a mark, each worker found some of the references that it scanned; each black reference to a white object was
-- found, but for some that are found late
pub record FoundBut (k : CycleHeap) (scanned : List (List ℕ)) (late : List ℕ) : Type 0 where
  pub are_found : AreFound k.heap.objects scanned k.found
  pub once : AreDistinct (joined k.found)
  pub all_found :
      (n : ℕ) → is_black k n ≡ true → refers_into (is_white k) (reference_at k.heap n) ≡ true
      → (has (joined k.found) n ≡ true) ⊎ (has late n ≡ true)

-- an object may be unhealed only in a cycle that has begun, and only until it is scanned
abbrev pub AreHealed : CycleHeap → Type 0
AreHealed k =
    (n : ℕ) → has k.space.unhealed n ≡ true
    → (is_there k.heap.objects n ≡ true) × (is_in_cycle k.phase ≡ true) × (is_black k n ≡ false)

-- ---- phases

-- what holds in Marking: it is said that an object is left exactly where one is grey
pub record InMarking (k : CycleHeap) (born : ℕ) (moments : List Graph) (scanned : List (List ℕ)) (is_left : Bool)
    : Type 0 where
  pub coloured : Coloured k born scanned
  pub reached : Reached k moments
  pub found : FoundBut k scanned []
  pub left : is_left ≡ not (is_empty k.grey)

-- What holds in Clearing: nothing is grey; what was found is in these lists, each once, black, and among the new clears
-- where its referent is doomed; and each black reference to the doomed is still to be looked at.
pub record InClearing (k : CycleHeap) (lists : List (List ℕ)) (clears : List ℕ) : Type 0 where
  pub no_grey : k.grey ≡ []
  pub same : lists ≡ k.found
  pub once : AreDistinct (joined k.found)
  pub black : (n : ℕ) → has (joined k.found) n ≡ true → is_black k n ≡ true
  pub cleared :
      (n : ℕ) → has (joined k.found) n ≡ true → has clears n ≡ refers_into (is_white k) (reference_at k.heap n)
  pub all_found :
      (n : ℕ) → is_black k n ≡ true → refers_into (is_white k) (reference_at k.heap n) ≡ true
      → has (joined k.found) n ≡ true

-- what holds in Sweeping: nothing is grey, and no black reference refers to the doomed
pub record InSweeping (k : CycleHeap) : Type 0 where
  pub no_grey : k.grey ≡ []
  pub none_left : (n : ℕ) → is_black k n ≡ true → refers_into (is_white k) (reference_at k.heap n) ≡ false

-- ---- what is there

-- What a root names is there; and so is what an object leads to that isn't due to be swept, by its fields or as a soft
-- or weak reference.
pub record AreThere (k : CycleHeap) (roots : List ℕ) : Type 0 where
  pub named : (n : ℕ) → has roots n ≡ true → is_there k.heap.objects n ≡ true
  pub led :
      (m n : ℕ) → is_due k m ≡ false → has (targets_at soft_and_weak_referents k.heap.objects m) n ≡ true
      → is_there k.heap.objects n ≡ true

-- ---- standing

-- The heap stands for the state: they agree in what they both have, the heap's as mutators read it, and each phase has
-- what holds in it.
pub record MarkStands (k : CycleHeap) (a : State) : Type 0 where
  pub heap : ReadsAs k a.world.heap
  pub next : a.next ≡ k.next
  pub policy : a.world.policy ≡ k.policy
  pub cycle : a.world.cycle ≡ k.cycle
  pub phase : a.world.phase ≡ k.phase
  pub doomed : a.doomed ≡ doomed k
  pub born : a.born ≤ k.next
  pub orderly : IsOrderly k.heap k.next
  pub scanners : length a.scanned ≡ k.heap.config.workers
  pub finders : length k.found ≡ k.heap.config.workers
  pub there : AreThere k (graph_of a.world).roots
  pub healed : AreHealed k
  pub moved : a.moved ≡ k.space.has_choice
  pub facts : is_in_cycle k.phase ≡ true → FactsBut k (graph_of a.world).roots []
  pub marking : is_in k.phase Marking ≡ true → InMarking k a.born a.moments a.scanned a.left
  pub clearing : is_in k.phase Clearing ≡ true → InClearing k a.found a.cleared
  pub sweeping : is_in k.phase Sweeping ≡ true → InSweeping k
