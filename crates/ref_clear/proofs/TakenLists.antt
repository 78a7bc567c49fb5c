-- How the lists of all workers change as a pending reference goes last in one.
use Rattle.ref_clear.proofs.Common.{arith, ◌≡◌, ℕ, ◌<◌, true, false, refl, sym, ap, subst, ◌∙◌, List, [], ◌∷◌, ◌++◌}
use Rattle.ref_clear.proofs.Common.{map, length, Option, Some, None, ◌⊎◌, inr, slice_index_or, slice_set, get_or-map}
use Rattle.ref_clear.proofs.Common.{length-map, length-set, map-append, map-set, has, AreDistinct, World, Pending}
use Rattle.ref_clear.proofs.Common.{pending_numbers, joined, ClearHeap, heap_pended, pending_at, linked_last_of, Tag}
use Rattle.ref_base.specs.Replay.{pended as world_pended}
use Rattle.ref_base.proofs.FoundLists.{with_last, has-with_last, AreDistinct-with_last}

-- ---- a pending reference goes last

-- the references themselves
abbrev pub numbers_in : List Pending → List ℕ
numbers_in ps = map (λ p. p.object) ps

-- pending references are those of all lists as one
pending_numbers-joined : (pss : List (List Pending)) → pending_numbers pss ≡ joined (map numbers_in pss)
pending_numbers-joined [] = refl
pending_numbers-joined (ps ∷ pss) = ap (λ ns. numbers_in ps ++ ns) (pending_numbers-joined pss)

-- the list of worker w gets a last one, and so does the list of its numbers
abbrev pended_last : List (List Pending) → ℕ → Pending → List (List Pending)
pended_last pss w p = slice_set pss w (slice_index_or pss w [] ++ p ∷ [])

pended-joined : (pss : List (List Pending)) (w : ℕ) (p : Pending)
    → pending_numbers (pended_last pss w p) ≡ joined (with_last (map numbers_in pss) w p.object)
pended-joined pss w p =
    pending_numbers-joined (pended_last pss w p)
    ∙ ap joined
    (map-set numbers_in pss w (slice_index_or pss w [] ++ p ∷ [])
    ∙ ap (λ ns. slice_set (map numbers_in pss) w ns)
    (map-append (λ (q : Pending). q.object) (slice_index_or pss w []) (p ∷ [])
    ∙ ap (λ ns. ns ++ p.object ∷ []) (sym (get_or-map numbers_in pss w []))))

-- n goes last in the list of worker w, if it is registered with a queue
abbrev pub pended_lists : List (List Pending) → (w n : ℕ) → Option ℕ → ℕ → List (List Pending)
pended_lists pss w n None cycle = pss
pended_lists pss w n (Some q) cycle = pended_last pss w (record { object = n; queue = q; cycle = cycle })

-- there are as many lists
pub length-pended : (pss : List (List Pending)) (w n : ℕ) (queue : Option ℕ) (cycle : ℕ)
    → length (pended_lists pss w n queue cycle) ≡ length pss
length-pended pss w n None cycle = refl
length-pended pss w n (Some q) cycle =
    length-set pss w (slice_index_or pss w [] ++ record { object = n; queue = q; cycle = cycle } ∷ [])

module _ (pss : List (List Pending)) (w : ℕ) (within : w < length pss) where
  worker_has_list : w < length (map numbers_in pss)
  worker_has_list = subst (λ count. w < count) (sym (length-map pss numbers_in)) within

  -- what is pending then was pending, or is that one
  pub has-pended : (n : ℕ) (queue : Option ℕ) (cycle m : ℕ)
      → has (pending_numbers (pended_lists pss w n queue cycle)) m ≡ true
      → (n ≡ m) ⊎ (has (pending_numbers pss) m ≡ true)
  has-pended n None cycle m pending = inr pending
  has-pended n (Some q) cycle m pending =
      grind (arith, pended-joined, has-with_last, worker_has_list, pending_numbers-joined)

  -- and none stands twice where that one is new
  pub AreDistinct-pended : (n : ℕ) (queue : Option ℕ) (cycle : ℕ) → AreDistinct (pending_numbers pss)
      → has (pending_numbers pss) n ≡ false → AreDistinct (pending_numbers (pended_lists pss w n queue cycle))
  AreDistinct-pended n None cycle distinct new = distinct
  AreDistinct-pended n (Some q) cycle distinct new =
      grind (arith, pended-joined, AreDistinct-with_last, worker_has_list, pending_numbers-joined)

-- and then the links lead to it from the last, if it is registered
abbrev pub pended_tags : List Tag → List ℕ → ℕ → Option ℕ → List Tag
pended_tags ts ns n None = ts
pended_tags ts ns n (Some q) = linked_last_of ts ns n

-- the changes of a world and of a heap have these lists
pub world-pended : (v : World) (w n : ℕ) (queue : Option ℕ)
    → world_pended v w n queue ≡ record v { pending = pended_lists v.pending w n queue v.cycle }
world-pended v w n None = refl
world-pended v w n (Some q) = refl

pub heap-pended : (c : ClearHeap) (w n : ℕ) (queue : Option ℕ)
    → heap_pended c w n queue ≡ record {
      mark = record c.mark { tags = pended_tags c.mark.tags (numbers_in (pending_at c w)) n queue };
      pending = pended_lists c.pending w n queue c.mark.cycle;
    }
heap-pended c w n None = refl
heap-pended c w n (Some q) = refl
