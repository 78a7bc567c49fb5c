-- What workers found is there and isn't doomed, and once a sweep has begun nothing that stays refers to the doomed.
use Rattle.ref_clear.proofs.Common.{arith, ◌≡◌, ℕ, true, false, has, is_there, refers_into, reference_at, is_in, State}
use Rattle.ref_clear.proofs.Common.{joined, Clearing, Sweeping, CycleHeap, is_white, is_black, is_doomed, ClearHeap}
use Rattle.ref_clear.proofs.Common.{HeapStands}

-- what is black is there, and isn't white
pub black_parts : (k : CycleHeap) (n : ℕ) → is_black k n ≡ true
    → (is_there k.heap.objects n ≡ true) × (is_white k n ≡ false)
black_parts k n black = grind arith

-- ---- what was found

pub found_is_there : (c : ClearHeap) (a : State) (n : ℕ) → HeapStands c a → is_in c.mark.phase Clearing ≡ true
    → has (joined c.mark.found) n ≡ true → is_there c.mark.heap.objects n ≡ true
found_is_there c a n stands clearing found =
    (black_parts c.mark n ((stands.mark.clearing clearing).black n found)).0

pub found_is_not_doomed : (c : ClearHeap) (a : State) (n : ℕ) → HeapStands c a → is_in c.mark.phase Clearing ≡ true
    → has (joined c.mark.found) n ≡ true → is_doomed c.mark n ≡ false
found_is_not_doomed c a n stands clearing found = grind arith

-- ---- what is left once a sweep has begun

pub nothing_refers_to_the_doomed : (c : ClearHeap) (a : State) (n : ℕ) → HeapStands c a
    → is_in c.mark.phase Sweeping ≡ true → is_doomed c.mark n ≡ false
    → refers_into (is_doomed c.mark) (reference_at c.mark.heap n) ≡ false
nothing_refers_to_the_doomed c a n stands sweeping stays = grind arith
