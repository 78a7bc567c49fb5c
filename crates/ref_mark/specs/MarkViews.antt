-- What a contract sees of a marker's fields, and what holds of them.
use Rattle.std.specs.Prelude.{◌≡◌, ℕ, ◌<◌, ◌≤◌, Bool, true, false, List, [], length, Option}
use Rattle.std.specs.Option.{option_map}
use Rattle.ref_base.specs.Members.{has, AreDistinct}
use Rattle.ref_base.specs.Collectors.{joined}
use Rattle.ref_base.specs.CollectorRows.{list_at}
use Rattle.ref_base.specs.Refusals.{is_in}
use Rattle.ref_base.specs.declared.phase.Phase.{Phase}
use Rattle.ref_base.specs.declared.phase.Phase.TheVariants.{Sweeping, Moving}
use Rattle.ref_base.specs.declared.policy.Policy.{Policy}
use Rattle.ref_objects.specs.Grounds.{Ground, Space, look_of}
use Rattle.ref_objects.specs.declared.stage.Stage.{Stage}
use Rattle.ref_objects.specs.declared.stage.Stage.TheVariants.{Tuned}
use Rattle.ref_space.specs.ColouredWords.{cycle_colour}
use Rattle.ref_space.specs.declared.colour.Colour.{Colour}
use Rattle.ref_space.specs.declared.linked.Look.{Look}
use Rattle.ref_space.specs.Worklists.{Worklist, first_in}
use Rattle.ref_mark.specs.declared.chain.Chain.{Chain}
use Rattle.ref_mark.specs.Chains.{lists_of, is_tagged, AreChains}
use Rattle.ref_mark.specs.CycleHeaps.{CycleHeap, is_in_cycle}

-- what stands in each of the workers' lists
abbrev pub found_in : Ground → List Chain → List (List ℕ)
found_in g found = lists_of g.tags g.heap.config.cells found

abbrev pub seen_marker : Ground → Worklist → List Chain → Phase → Policy → ℕ → CycleHeap
seen_marker g grey found phase policy cycle = record {
  heap = g.heap;
  next = g.next;
  marked = g.marked;
  tags = g.tags;
  space = g.space;
  grey = grey.stands;
  found = found_in g found;
  phase = phase;
  policy = policy;
  cycle = cycle;
}

-- the objects, slots and holds of the heap, with marks and tags, and where they lie: in a sweep what isn't marked is
-- condemned
abbrev pub ground_of : CycleHeap → Ground
ground_of k = record {
  heap = k.heap;
  next = k.next;
  marked = k.marked;
  tags = k.tags;
  condemning = is_in k.phase Sweeping;
  space = k.space;
}

-- the look at the first that the worker found
abbrev pub found_look : CycleHeap → ℕ → Option Look
found_look k w = option_map (look_of (ground_of k)) (first_in (list_at k.found w))

-- What is grey and what workers found are marked objects, each of which stands in one list and there once; and in a
-- sweep nothing is left that was found.
pub record AreListed (marked grey : List ℕ) (found : List (List ℕ)) (phase : Phase) : Type 0 where
  pub grey_once : AreDistinct grey
  pub grey_marked : (n : ℕ) → has grey n ≡ true → has marked n ≡ true
  pub found_once : AreDistinct (joined found)
  pub found_marked : (n : ℕ) → has (joined found) n ≡ true → has marked n ≡ true
  pub apart : (n : ℕ) → has grey n ≡ true → has (joined found) n ≡ false
  pub none_left : is_in phase Sweeping ≡ true → joined found ≡ []

-- No list is ever full: the grey list has room for as many as there are cells, and no more are marked. There is a chain
-- for each worker, and it is one. No object has number 0. What isn't marked is condemned in a sweep, and only then.
pub record IsSoundMarker (g : Ground) (grey : Worklist) (found : List Chain) (phase : Phase) : Type 0 where
  pub few : length g.marked ≤ g.heap.config.cells
  pub grey_fits : g.heap.config.cells ≤ grey.room
  pub finders : length found ≡ g.heap.config.workers
  pub begins : 1 ≤ g.next
  pub none_0 : is_tagged g.tags 0 ≡ false
  pub chains : AreChains g.tags g.heap.config.cells found
  pub listed : AreListed g.marked grey.stands (found_in g found) phase
  pub condemning : g.condemning ≡ is_in phase Sweeping

-- No object is still to move but while objects move; none is unhealed but in a cycle, which was the last to make a
-- colour good; a choice ends with the cycle after it; and the colour of the last cycle that began is that of its
-- number.
pub record IsSettled (still_to_move unhealed : List ℕ) (stage : Stage) (has_choice : Bool) (last : Colour)
    (phase : Phase) (cycle : ℕ) : Type 0 where
  pub none_left : is_in phase Moving ≡ false → still_to_move ≡ []
  pub healed : is_in_cycle phase ≡ false → unhealed ≡ []
  pub tuned : is_in_cycle phase ≡ true → stage ≡ Tuned
  pub ended : is_in_cycle phase ≡ false → stage ≡ Tuned → has_choice ≡ false
  pub colour : last ≡ cycle_colour cycle

abbrev pub AreSettled : Space → Phase → ℕ → Type 0
AreSettled s phase cycle = IsSettled s.still_to_move s.unhealed s.stage s.has_choice s.last phase cycle

-- the lists are sound, and so are moves
pub record IsMarker (g : Ground) (grey : Worklist) (found : List Chain) (phase : Phase) (cycle : ℕ) : Type 0 where
  pub lists : IsSoundMarker g grey found phase
  pub moves : AreSettled g.space phase cycle

-- A worker may find object n: it is black, and nobody has found it, while the cycle marks.
pub record MayFind (k : CycleHeap) (w n : ℕ) : Type 0 where
  pub worker : w < k.heap.config.workers
  pub going : is_in k.phase Sweeping ≡ false
  pub marked : has k.marked n ≡ true
  pub black : has k.grey n ≡ false
  pub new : has (joined k.found) n ≡ false

-- Object n may become grey: it is marked, and stands in no list.
pub record MayGrey (k : CycleHeap) (n : ℕ) : Type 0 where
  pub marked : has k.marked n ≡ true
  pub new : has k.grey n ≡ false
  pub lacks : has (joined k.found) n ≡ false
