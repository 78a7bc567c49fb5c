-- Once nothing is grey, what isn't marked may be doomed: nothing that is kept is white, and no marked object leads to a
-- white one.
use Rattle.ref_mark.proofs.Common.{arith, ◌≡◌, ℕ, true, false, not, ◌&&◌, nat_lt, refl, ap, List, [], ◌∷◌, inl, inr}
use Rattle.ref_mark.proofs.Common.{false≢true, has, Graph, Object, is_there, targets_at, is_kept, graph_of, State}
use Rattle.ref_mark.proofs.Common.{joined, CycleHeap, is_white, is_black, is_in_cycle, unmarked, FactsBut, Coloured}
use Rattle.ref_mark.proofs.Common.{Reached, MarkStands}
use Rattle.ref_base.specs.DoomedSets.{MayDoom, unscanned}
use Rattle.ref_base.specs.KeptPaths.{IsKept}
use Rattle.ref_base.proofs.PathLaws.{path_within}
use Rattle.ref_objects.proofs.SparedLemmas.{has-unmarked}

-- ---- between any two steps of a cycle

pub root_facts : (k : CycleHeap) (a : State) (n : ℕ) → MarkStands k a → is_in_cycle k.phase ≡ true
    → has (graph_of a.world).roots n ≡ true → is_white k n ≡ false
root_facts k a n stands begun root = grind arith

pub edge_facts : (k : CycleHeap) (a : State) (m n : ℕ) → MarkStands k a → is_in_cycle k.phase ≡ true
    → is_black k m ≡ true
    → has (targets_at (is_kept k.policy) k.heap.objects m) n ≡ true → is_white k n ≡ false
edge_facts k a m n stands begun black target = grind arith

-- ---- once nothing is grey

-- where nothing is grey, what is there and marked is black
pub marked_is_black : (k : CycleHeap) → k.grey ≡ [] → (n : ℕ) → is_there k.heap.objects n ≡ true → has k.marked n ≡ true
    → is_black k n ≡ true
marked_is_black k none n there marked =
    let clear : has k.grey n ≡ false = ap (λ ns. has ns n) none in simp (there, marked, clear) refl

-- what an object leads to that is there and isn't white isn't white either
pub not_white_goes_on : (k : CycleHeap) (roots : List ℕ) → FactsBut k roots [] → k.grey ≡ [] → (m n : ℕ)
    → is_there k.heap.objects m ≡ true → is_white k m ≡ false
    → has (targets_at (is_kept k.policy) k.heap.objects m) n ≡ true → is_white k n ≡ false
not_white_goes_on k roots facts none m n there other target = grind arith

-- no kept path ends at a white object
pub kept_is_not_white : (k : CycleHeap) (roots : List ℕ) → FactsBut k roots [] → k.grey ≡ [] → (n : ℕ)
    → IsKept k.policy (record { objects = k.heap.objects; roots = roots }) n → is_white k n ≡ false
kept_is_not_white k roots facts none n kept =
    let g : Graph = record { objects = k.heap.objects; roots = roots } in
    (path_within (is_kept k.policy) g (λ i. (is_there k.heap.objects i ≡ true) × (is_white k i ≡ false))
    (λ i there root.
    (there, elim (facts.rooted i root) [ inl other ↦ other | inr listed ↦ absurd (false≢true listed) ]))
    (λ i j before target there. (there, not_white_goes_on k roots facts none i j before.0 before.1 target))
    n kept.0 kept.1).1

-- so the unmarked may be doomed
pub unmarked_may_be_doomed : (k : CycleHeap) (a : State) (roots : List ℕ) → FactsBut k roots [] → Reached k a.moments
    → k.grey ≡ []
    → MayDoom k.policy (record { objects = k.heap.objects; roots = roots }) a.moments
    (unmarked k.heap.objects k.marked)
unmarked_may_be_doomed k a roots facts reached none = grind (arith, has-unmarked, kept_is_not_white)

-- ---- unmarked and unscanned

unscanned-unmarked : (os : List Object) (born : ℕ) (scanned marked : List ℕ)
    → ((n : ℕ) → is_there os n ≡ true → (nat_lt n born && not (has scanned n)) ≡ not (has marked n))
    → unscanned os born scanned ≡ unmarked os marked
unscanned-unmarked [] born scanned marked same = refl
unscanned-unmarked (o ∷ os) born scanned marked same = grind (arith, unscanned-unmarked os born scanned marked)

-- where nothing is grey, what was made before the cycle and never scanned is what isn't marked
pub unscanned_is_unmarked : (k : CycleHeap) (a : State) → Coloured k a.born a.scanned → k.grey ≡ []
    → unscanned k.heap.objects a.born (joined a.scanned) ≡ unmarked k.heap.objects k.marked
unscanned_is_unmarked k a coloured none = grind (arith, unscanned-unmarked)
