-- What holds in a mark while one object is scanned: it is off the grey list, what it leads to is still to be shaded,
-- and it may be a reference that is found late.
use Rattle.ref_mark.proofs.Common.{arith, ◌≡◌, ℕ, ◌<◌, Bool, true, false, ◌==◌, List, [], ◌∷◌, ◌++◌, length, ◌⊎◌}
use Rattle.ref_mark.proofs.Common.{is_some, length-set, refers_into, has, Graph, targets_at, is_kept, reference_at}
use Rattle.ref_mark.proofs.Common.{graph_of, State, joined, Marking, CycleHeap, is_white, is_black, with_found}
use Rattle.ref_mark.proofs.Common.{FactsBut, Coloured, Reached, FoundBut, list_at, linked_last_of}
use Rattle.ref_base.specs.CollectorRows.{AreFound}
use Rattle.ref_mark.specs.CycleHeaps.{cycle_healed}
use Rattle.ref_base.proofs.HasLaws.{has-left}
use Rattle.ref_base.proofs.PathLaws.{target_ends}
use Rattle.ref_mark.proofs.Shading.{MarkingBut}
use Rattle.ref_mark.proofs.PlainStates.{plain_state}
use Rattle.ref_base.proofs.FoundLists.{with_last, has-with_last, AreDistinct-with_last, AreFound-more_scanned}

-- ---- a moment more

-- one more moment at which the objects are the heap's changes nothing of what was reached
pub reached_later : (k : CycleHeap) (moments : List Graph) (g : Graph) → g.objects ≡ k.heap.objects → Reached k moments
    → Reached k (g ∷ moments)
reached_later k moments g same reached = grind (arith, target_ends)

-- ---- the first of the grey list becomes black

-- the first is off the grey list, and healed
abbrev pub without_first : CycleHeap → ℕ → List ℕ → CycleHeap
without_first k n rest = cycle_healed (record k { grey = rest }) n

black-without_first : (k : CycleHeap) (n m : ℕ) (rest : List ℕ) → k.grey ≡ n ∷ rest
    → is_black (without_first k n rest) m ≡ true → ((n == m) ≡ true) ⊎ (is_black k m ≡ true)
black-without_first k n m rest is black = grind arith

facts-without_first : (k : CycleHeap) (n : ℕ) (rest roots : List ℕ) → k.grey ≡ n ∷ rest → FactsBut k roots []
    → FactsBut (without_first k n rest) roots (targets_at (is_kept k.policy) k.heap.objects n ++ [])
facts-without_first k n rest roots is facts = grind (arith, has-left)

-- the state in which worker w scanned n in one more moment
abbrev pub state_scanned : CycleHeap → State → ℕ → ℕ → Bool → State
state_scanned k a w n left =
    let s = plain_state k Marking a in
    record s { moments = graph_of s.world ∷ a.moments; scanned = with_last a.scanned w n; left = left }

coloured-without_first : (k : CycleHeap) (born : ℕ) (lists : List (List ℕ)) (w n : ℕ) (rest : List ℕ)
    → k.grey ≡ n ∷ rest
    → w < length lists → Coloured k born lists → Coloured (without_first k n rest) born (with_last lists w n)
coloured-without_first k born lists w n rest is within coloured = grind (arith, has-with_last, black-without_first k n)

found-without_first : (k : CycleHeap) (lists : List (List ℕ)) (w n : ℕ) (rest : List ℕ) → k.grey ≡ n ∷ rest
    → FoundBut k lists [] → FoundBut (without_first k n rest) (with_last lists w n) (n ∷ [])
found-without_first k lists w n rest is found = grind (arith, AreFound-more_scanned)

-- what it leads to is still to be shaded, and it may be found late
pub without_first_marking : (k : CycleHeap) (a : State) (w n : ℕ) (rest : List ℕ) (left : Bool) → k.grey ≡ n ∷ rest
    → w < length a.scanned → MarkingBut k (plain_state k Marking a) [] []
    → MarkingBut (without_first k n rest) (state_scanned k a w n left)
    (targets_at (is_kept k.policy) k.heap.objects n ++ []) (n ∷ [])
without_first_marking k a w n rest left is within but =
    search (reached_later, facts-without_first, coloured-without_first, found-without_first)

-- ---- what is found

-- worker w found n
abbrev with_one_found : CycleHeap → ℕ → ℕ → CycleHeap
with_one_found j w n =
    record j { found = with_last j.found w n; tags = linked_last_of j.tags (list_at j.found w) n }

-- only what is found changes, and the links; and no worker comes or goes
pub with_found-only : (j : CycleHeap) (w n : ℕ)
    → with_found j w n ≡ record j { found = (with_found j w n).found; tags = (with_found j w n).tags }
with_found-only j w n = grind arith

pub length-with_found : (j : CycleHeap) (w n : ℕ) → length (with_found j w n).found ≡ length j.found
length-with_found j w n = grind (arith, length-set)

one_found_marking : (j : CycleHeap) (b : State) (w n : ℕ) → w < length j.found → has (joined j.found) n ≡ false
    → AreFound j.heap.objects b.scanned (with_last j.found w n)
    → MarkingBut j b [] (n ∷ []) → MarkingBut (with_one_found j w n) b [] []
one_found_marking j b w n within new are but = grind (arith, AreDistinct-with_last, has-with_last)

none_found_marking : (j : CycleHeap) (b : State) (n : ℕ) → refers_into (is_white j) (reference_at j.heap n) ≡ false
    → MarkingBut j b [] (n ∷ []) → MarkingBut j b [] []
none_found_marking j b n other but = grind arith

-- then nothing is found late any more
pub with_found_marking : (j : CycleHeap) (b : State) (w n : ℕ) → w < length j.found → has (joined j.found) n ≡ false
    → (is_some (reference_at j.heap n) ≡ true → AreFound j.heap.objects b.scanned (with_last j.found w n))
    → MarkingBut j b [] (n ∷ []) → MarkingBut (with_found j w n) b [] []
with_found_marking j b w n within new are but = grind (arith, none_found_marking, one_found_marking j b w n within new)
