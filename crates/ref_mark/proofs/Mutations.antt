-- What holds of a heap in its cycles goes on holding after a step of a mutator.
use Rattle.ref_mark.proofs.Common.{◌≡◌, ℕ, ◌<◌, ◌≤◌, Bool, true, false, refl, arith, List, [], ◌∷◌, ◌++◌, length}
use Rattle.ref_mark.proofs.Common.{Option, Some, None, is_some, ◌⊎◌, inl, inr, refers_into, has, Graph, Object}
use Rattle.ref_mark.proofs.Common.{object_at, is_there, Allowed, present, targets_of, targets_at}
use Rattle.ref_mark.proofs.Common.{soft_and_weak_referents, IsRising, is_kept, Heap, reference_in, reference_at, World}
use Rattle.ref_mark.proofs.Common.{with_heap, pending_numbers, State, is_in_cycle, CycleHeap, is_white, is_past_mark}
use Rattle.ref_mark.proofs.Common.{is_due, doomed, FactsBut, Coloured, Reached, FoundBut, numbers, Tag, Space}
use Rattle.ref_base.proofs.PathLaws.{root_ends, target_ends}
use Rattle.ref_mark.proofs.Shading.{MarkingBut}
use Rattle.ref_base.proofs.StillFound.{are_found-still}

-- ---- mutations

-- what a mutator may change: the rest of a heap in its cycles is as it was
pub record Change : Type 0 where
  pub objects : List Object
  pub slots : List (Option ℕ)
  pub holds : List ℕ
  pub next : ℕ
  pub marked : List ℕ
  pub tags : List Tag
  pub space : Space

abbrev pub mutated : CycleHeap → Change → CycleHeap
mutated k c = record k {
  heap = record k.heap { objects = c.objects; slots = c.slots; holds = c.holds };
  next = c.next;
  marked = c.marked;
  tags = c.tags;
  space = c.space;
}

-- the roots after it, where these references are pending
abbrev pub roots_after : Change → List ℕ → List ℕ
roots_after c pending = present c.slots ++ c.holds ++ pending

abbrev pub graph_after : Change → List ℕ → Graph
graph_after c pending = record { objects = c.objects; roots = roots_after c pending }

-- an object is new: a root leads to it, and it is marked once a cycle has begun
pub record IsNew (k : CycleHeap) (c : Change) (pending : List ℕ) (n : ℕ) : Type 0 where
  pub since : k.next ≤ n
  pub below : n < c.next
  pub root : has (roots_after c pending) n ≡ true
  pub marked : is_in_cycle k.phase ≡ true → has c.marked n ≡ true

-- An object leads to another where it did so before, or the other is a root now, or it is a root itself and the other
-- isn't white.
abbrev pub MayLead : CycleHeap → Change → List ℕ → ℕ → ℕ → Type 0
MayLead k c pending m n =
    (has (targets_at (is_kept k.policy) k.heap.objects m) n ≡ true) ⊎ (has (roots_after c pending) n ≡ true)
    ⊎ ((has (roots_after c pending) m ≡ true) × (is_in_cycle k.phase ≡ true → is_white k n ≡ false))

-- A step of a mutator: no object goes, and what comes is new and healed; nothing else is doomed than before; no root is
-- white but for some numbers that are still to be shaded; what is named is there; where an object leads to another,
-- this is allowed; references stay references, and none refers to a white object that didn't before; and once a mark
-- has ended none stops to. No objects are chosen to move.
pub record IsMutation (k : CycleHeap) (c : Change) (pending todo : List ℕ) : Type 0 where
  pub next : k.next ≤ c.next
  pub stays : (n : ℕ) → is_there k.heap.objects n ≡ true → is_there c.objects n ≡ true
  pub was : (n : ℕ) → is_there c.objects n ≡ true → (is_there k.heap.objects n ≡ true) ⊎ IsNew k c pending n
  pub rising : IsRising (numbers c.objects)
  pub slots : length c.slots ≡ length k.heap.slots
  pub doomed : doomed (mutated k c) ≡ doomed k
  pub marked_stays : (n : ℕ) → has k.marked n ≡ true → has c.marked n ≡ true
  pub marked_was : (n : ℕ) → has c.marked n ≡ true → (has k.marked n ≡ true) ⊎ (k.next ≤ n)
  pub unhealed : c.space.unhealed ≡ k.space.unhealed
  pub choice : c.space.has_choice ≡ k.space.has_choice
  pub roots : is_in_cycle k.phase ≡ true → (n : ℕ) → has (roots_after c pending) n ≡ true
      → (is_white k n ≡ false) ⊎ (has todo n ≡ true)
  pub named : (n : ℕ) → has (roots_after c pending) n ≡ true → is_there c.objects n ≡ true
  pub led : (m n : ℕ) → is_due k m ≡ false → has (targets_at soft_and_weak_referents c.objects m) n ≡ true
      → is_there c.objects n ≡ true
  pub leads : (m n : ℕ) → has (targets_at (is_kept k.policy) c.objects m) n ≡ true → MayLead k c pending m n
  pub references : (n : ℕ) → is_some (reference_at k.heap n) ≡ true
      → is_some (reference_in (object_at c.objects n)) ≡ true
  pub to_white : is_in_cycle k.phase ≡ true → (n : ℕ)
      → refers_into (is_white k) (reference_in (object_at c.objects n)) ≡ true
      → refers_into (is_white k) (reference_at k.heap n) ≡ true
  pub white_stays : is_past_mark k.phase ≡ true → (n : ℕ) → refers_into (is_white k) (reference_at k.heap n) ≡ true
      → refers_into (is_white k) (reference_in (object_at c.objects n)) ≡ true

-- the state after it, in which hands, queues and pending references may be others
abbrev pub mutated_state : State → World → ℕ → List Graph → Bool → State
mutated_state a w next moments left = record a { world = w; next = next; moments = moments; left = left }

-- ---- small facts

targets_of-some : (allow : Allowed) (o : Option Object) (n : ℕ) → has (targets_of allow o) n ≡ true → is_some o ≡ true
targets_of-some allow None n target = target
targets_of-some allow (Some o) n target = refl

-- what leads on is there
pub leading_is_there : (allow : Allowed) (os : List Object) (m n : ℕ) → has (targets_at allow os m) n ≡ true
    → is_there os m ≡ true
leading_is_there allow os m n target = targets_of-some allow (object_at os m) n target

reference_in-some : (test : ℕ → Bool) (o : Option Object) → refers_into test (reference_in o) ≡ true → is_some o ≡ true
reference_in-some test None refers = refers
reference_in-some test (Some o) refers = refl

-- and so is what refers to something
pub referring_is_there : (test : ℕ → Bool) (h : Heap) (n : ℕ) → refers_into test (reference_at h n) ≡ true
    → is_there h.objects n ≡ true
referring_is_there test h n refers = reference_in-some test (object_at h.objects n) refers

-- ---- colours and facts

-- in a cycle that has begun
module _ (k : CycleHeap) (c : Change) (pending todo : List ℕ) (mutation : IsMutation k c pending todo)
    (begun : is_in_cycle k.phase ≡ true) (below : (n : ℕ) → is_there k.heap.objects n ≡ true → n < k.next) where
  -- what was there is marked if it was
  marked-was : (n : ℕ) → is_there k.heap.objects n ≡ true → has c.marked n ≡ true → has k.marked n ≡ true
  marked-was n there marked = grind arith

  pub mutated_facts : (roots : List ℕ) → FactsBut k roots [] → FactsBut (mutated k c) (roots_after c pending) todo
  mutated_facts roots facts = grind arith

  -- ---- a mark

  pub mutated_coloured : (born : ℕ) (scanned : List (List ℕ)) → born ≤ k.next → Coloured k born scanned
      → Coloured (mutated k c) born scanned
  mutated_coloured born scanned early coloured = grind arith

  pub mutated_reached : (moments : List Graph) → Reached k moments
      → Reached (mutated k c) (graph_after c pending ∷ moments)
  mutated_reached moments reached = record {
    marked_ever = λ n there marked.
        elim (mutation.was n there) [
          | inl before ↦ inr (reached.marked_ever n before (marked-was n before marked))
          | inr new ↦ inl (root_ends (is_kept k.policy) (graph_after c pending) n there new.root)
        ];
    goes_on = λ m n ever target there.
        elim (mutation.leads m n target) [
          | inl before ↦ elim ever [
            | inl kept ↦ inl (target_ends (is_kept k.policy) (graph_after c pending) m n kept target there)
            | inr earlier ↦ elim (mutation.was n there) [
              | inl old ↦ inr (reached.goes_on m n earlier before old)
              | inr new ↦ inl (root_ends (is_kept k.policy) (graph_after c pending) n there new.root)
            ]
          ]
          | inr now ↦ elim now [
            | inl root ↦ inl (root_ends (is_kept k.policy) (graph_after c pending) n there root)
            | inr own ↦
                let leads : is_there c.objects m ≡ true =
                leading_is_there (is_kept k.policy) c.objects m n target in
                inl
                (target_ends (is_kept k.policy) (graph_after c pending) m n
                (root_ends (is_kept k.policy) (graph_after c pending) m leads own.0) target there)
          ]
        ];
  }

  pub mutated_found : (scanned : List (List ℕ)) → FoundBut k scanned [] → FoundBut (mutated k c) scanned []
  mutated_found scanned found = grind (arith, are_found-still)
  -- ---- later phases

-- ---- states

-- in a mark, what holds goes on holding, but for what is still to be shaded
pub mutated_marking : (k : CycleHeap) (c : Change) (a : State) (w : World) (todo : List ℕ) (left : Bool)
    → IsMutation k c (pending_numbers w.pending) todo → is_in_cycle k.phase ≡ true
    → ((n : ℕ) → is_there k.heap.objects n ≡ true → n < k.next) → a.born ≤ k.next → MarkingBut k a [] []
    → MarkingBut (mutated k c)
    (mutated_state a (with_heap w (mutated k c).heap) c.next (graph_after c (pending_numbers w.pending) ∷ a.moments)
    left) todo []
mutated_marking k c a w todo left mutation begun below born but =
    search (mutated_facts, mutated_coloured, mutated_reached, mutated_found)
