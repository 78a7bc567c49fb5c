-- As a cycle begins the pending references become grey, worker by worker in list order.
use Rattle.ref_clear.proofs.Common.{◌≡◌, ℕ, ◌+◌, ◌<◌, ◌≤◌, ◌==◌, true, false, zero, suc, List, [], ◌∷◌, ◌++◌, length}
use Rattle.ref_clear.proofs.Common.{take, get_or, sym, ap, ◌∙◌, arith, append_assoc, take_all, get_or_default, joined}
use Rattle.ref_clear.proofs.Common.{CycleHeap, shaded_all, Chain, listed, lists_in}
use Rattle.std.proofs.lemmas.List.{append-nil}
use Rattle.ref_mark.specs.CycleHeaps.{shaded}
use Rattle.ref_mark.specs.Chains.{walk, next_of}
use Rattle.ref_mark.proofs.ChainLemmas.{walk-none, list_at-lists_of}
use Rattle.ref_mark.proofs.KeptParts.{shaded_all-tags}
use Rattle.ref_mark.proofs.LoopLemmas.{shaded_heap, shaded_once-heap}
use Rattle.ref_mark.proofs.MarkerLemmas.{length-lists_of}
use Rattle.ref_mark.proofs.Shading.{shaded_all-append}

-- ---- of one worker

-- once the numbers from next on are shaded, at most so many, all are that the chain has
pub record IsShading (start k : CycleHeap) (list : Chain) (left next : ℕ) : Type 0 where
  pub shades :
      shaded_all k (walk start.tags list.last left next)
      ≡ shaded_all start (listed start.tags start.heap.config.cells list)
  pub tags : k.tags ≡ start.tags
  pub heap : k.heap ≡ start.heap

shaded-tags : (k : CycleHeap) (n : ℕ) → (shaded k n).tags ≡ k.tags
shaded-tags k n = grind arith

pub shading_more : (start k : CycleHeap) (list : Chain) (left less next : ℕ) → left ≡ less + 1 → (next == 0) ≡ false
    → IsShading start k list left next
    → IsShading start (shaded k next) list less (next_of start.tags list.last next)
shading_more start k list left less next size some shading = record {
  shades = sym (step less next some) ∙ ap (λ i. shaded_all k (walk start.tags list.last i next)) (sym size)
      ∙ shading.shades;
  tags = shaded-tags k next ∙ shading.tags;
  heap = shaded_once-heap k next ∙ shading.heap;
}
  where
    step : (less next : ℕ) → (next == 0) ≡ false
        → shaded_all k (walk start.tags list.last (less + 1) next)
        ≡ shaded_all (shaded k next) (walk start.tags list.last less (next_of start.tags list.last next))
    step less next some = grind arith

pub shading_done : (start k : CycleHeap) (list : Chain) (left next : ℕ) → (next == 0) ≡ true
    → IsShading start k list left next → k ≡ shaded_all start (listed start.tags start.heap.config.cells list)
shading_done start k list left next none shading =
    ap (shaded_all k) (sym (walk-none start.tags list.last left next none)) ∙ shading.shades

-- ---- of all workers

joined-more : (ls : List (List ℕ)) (w : ℕ) (l : List ℕ) → w < length ls
    → joined (take (suc w) ls) ≡ joined (take w ls) ++ get_or ls w l
joined-more [] w l within = absurd (omega (arith, within))
joined-more (m ∷ ls) zero l within = append-nil m
joined-more (m ∷ ls) (suc w) l within = grind (arith, append_assoc, joined-more ls w l)

worker_more : (start k : CycleHeap) (ls : List (List ℕ)) (w : ℕ) (l : List ℕ) → w < length ls
    → k ≡ shaded_all start (joined (take w ls))
    → shaded_all k (get_or ls w l) ≡ shaded_all start (joined (take (w + 1) ls))
worker_more start k ls w l within so_far = grind (arith, joined-more, shaded_all-append start)

-- the chain of one worker more
pub chain_more : (start k j : CycleHeap) (chains : List Chain) (w : ℕ) (c : Chain) → w < length chains
    → k ≡ shaded_all start (joined (take w (lists_in start chains)))
    → j ≡ shaded_all k (listed k.tags k.heap.config.cells (get_or chains w c))
    → j ≡ shaded_all start (joined (take (w + 1) (lists_in start chains)))
chain_more start k j chains w d within so_far now =
    grind (
      arith,
      get_or_default,
      length-lists_of,
      shaded_all-tags,
      worker_more,
      shaded_heap start k,
      list_at-lists_of start.tags start.heap.config.cells chains w,
    )

pub all_workers : (start k : CycleHeap) (chains : List Chain) (w : ℕ) → length chains ≤ w
    → k ≡ shaded_all start (joined (take w (lists_in start chains)))
    → k ≡ shaded_all start (joined (lists_in start chains))
all_workers start k chains w all so_far = grind (arith, length-lists_of, take_all)
