-- What is unhealed: in a mark what was made before the cycle, and wasn't scanned; and nothing between cycles, nor once
-- all is swept.
use Rattle.ref_mark.proofs.Common.{arith, ◌≡◌, ℕ, ◌<◌, true, false, true≢false, sym, ◌∙◌, refl, List, [], ◌∷◌, has}
use Rattle.ref_mark.proofs.Common.{is_there, is_in, is_in_cycle, State, joined, Marking, CycleHeap, Coloured}
use Rattle.ref_mark.proofs.Common.{MarkStands, is_empty, Sweeping, doomed}
use Rattle.ref_mark.proofs.DoomedLists.{has-doomed}
use Rattle.ref_mark.specs.Standing.{AreHealed}
use Rattle.ref_base.proofs.HasLaws.{has-first}

-- ---- in a mark

-- what is unhealed is there, was made before the cycle, and no row of it scanned it
abbrev pub AreUnscanned : CycleHeap → ℕ → List (List ℕ) → Type 0
AreUnscanned k born scanned =
    (n : ℕ) → has k.space.unhealed n ≡ true
    → (is_there k.heap.objects n ≡ true) × (n < born) × (has (joined scanned) n ≡ false)

-- then it isn't black
pub unscanned_healed : (k : CycleHeap) (born : ℕ) (scanned : List (List ℕ)) → is_in k.phase Marking ≡ true
    → Coloured k born scanned → AreUnscanned k born scanned → AreHealed k
unscanned_healed k born scanned marking coloured unscanned n unhealed = grind arith

-- and so it is in a heap that stands for a state
pub unhealed_unscanned : (k : CycleHeap) (a : State) → MarkStands k a → is_in k.phase Marking ≡ true
    → AreUnscanned k a.born a.scanned
unhealed_unscanned k a stands marking n unhealed = grind arith

-- ---- between cycles

none_within : (ns : List ℕ) → ((n : ℕ) → has ns n ≡ true → ⊥) → ns ≡ []
none_within [] none = refl
none_within (n ∷ ns) none = absurd (none n (has-first n ns))

pub none_unhealed : (k : CycleHeap) (a : State) → MarkStands k a → is_in_cycle k.phase ≡ false
    → k.space.unhealed ≡ []
none_unhealed k a stands between =
    none_within k.space.unhealed (λ n unhealed. true≢false (sym (stands.healed n unhealed).1 ∙ between))

-- ---- at a cycle's end

has-empty : (ns : List ℕ) (n : ℕ) → is_empty ns ≡ true → has ns n ≡ false
has-empty [] n none = refl
has-empty (m ∷ ms) n none = absurd (true≢false (sym none))

-- in a sweep what is unhealed is doomed
unhealed_doomed : (k : CycleHeap) (a : State) (n : ℕ) → MarkStands k a → is_in k.phase Sweeping ≡ true
    → has k.space.unhealed n ≡ true → has (doomed k) n ≡ true
unhealed_doomed k a n stands sweeping unhealed = grind (arith, has-doomed)

pub swept_healed : (k : CycleHeap) (a : State) → MarkStands k a → is_in k.phase Sweeping ≡ true
    → is_empty (doomed k) ≡ true → k.space.unhealed ≡ []
swept_healed k a stands sweeping swept =
    none_within k.space.unhealed
    (λ n unhealed.
    true≢false (sym (unhealed_doomed k a n stands sweeping unhealed) ∙ has-empty (doomed k) n swept))
