-- What a mutator can name isn't white once a cycle has begun, and what a mark has reached leads to nothing white once
-- the mark has ended.
use Rattle.ref_mark.proofs.Common.{◌≡◌, ℕ, ◌+◌, ◌*◌, ◌<◌, true, false, refl, arith, List, ◌++◌, length, Option, Some}
use Rattle.ref_mark.proofs.Common.{None, ◌⊎◌, inl, slice_set, any_is, has, is_there, present, targets_at, is_kept}
use Rattle.ref_mark.proofs.Common.{slot_at, pending_numbers, is_in, has_slot, State, Phase, Marking, Sweeping}
use Rattle.ref_mark.proofs.Common.{is_in_cycle, CycleHeap, is_white, is_past_mark, is_due, AreThere, MarkStands}
use Rattle.ref_base.proofs.HasLaws.{has-left, has-right, has-cases}
use Rattle.ref_base.proofs.Lookups.{has-present_set, has-present_at}

-- a cycle that has begun and isn't in its mark is past it
pub past_from : (phase : Phase) → is_in_cycle phase ≡ true → is_in phase Marking ≡ false → is_past_mark phase ≡ true
past_from phase begun quiet = grind arith

-- ---- three lists of roots

pub slot_root : (slots holds pending : List ℕ) (n : ℕ) → has slots n ≡ true → has (slots ++ holds ++ pending) n ≡ true
slot_root slots holds pending n h = has-left (slots ++ holds) pending n (has-left slots holds n h)

pub hold_root : (slots holds pending : List ℕ) (n : ℕ) → has holds n ≡ true → has (slots ++ holds ++ pending) n ≡ true
hold_root slots holds pending n h = has-left (slots ++ holds) pending n (has-right slots holds n h)

pub pending_root : (slots holds pending : List ℕ) (n : ℕ) → has pending n ≡ true
    → has (slots ++ holds ++ pending) n ≡ true
pending_root slots holds pending n h = has-right (slots ++ holds) pending n h

pub root_cases : (slots holds pending : List ℕ) (n : ℕ) → has (slots ++ holds ++ pending) n ≡ true
    → (has slots n ≡ true) ⊎ (has holds n ≡ true) ⊎ (has pending n ≡ true)
root_cases slots holds pending n h = grind (arith, has-cases)

-- ---- slots

-- a slot of a mutator that is there is among the slots
pub slot_within : (k : CycleHeap) (a : State) (m s : ℕ) → MarkStands k a → has_slot k.heap m s ≡ true
    → 16 * m + s < length k.heap.slots
slot_within k a m s stands there = grind arith

module _ (k : CycleHeap) (a : State) (stands : MarkStands k a) where
  -- what a root names is there
  pub root_is_there : (n : ℕ)
      → has (present k.heap.slots ++ k.heap.holds ++ pending_numbers a.world.pending) n ≡ true
      → is_there k.heap.objects n ≡ true
  root_is_there n root = grind arith

  pub slot_is_there : (m s n : ℕ) → slot_at k.heap m s ≡ Some n → is_there k.heap.objects n ≡ true
  slot_is_there m s n is = search (root_is_there, slot_root, has-present_at)

  -- out of Sweeping nothing is due, and all stays there where the objects do
  pub plain_there : is_in k.phase Sweeping ≡ false → (j : CycleHeap) → j.heap.objects ≡ k.heap.objects
      → AreThere j (present k.heap.slots ++ k.heap.holds ++ pending_numbers a.world.pending)
  plain_there quiet j same = grind arith

  -- where a slot is set to a value, what holds of all roots and of that value holds of all roots then
  pub each_root_of_set : (P : ℕ → Type 0) (i : ℕ) (value : Option ℕ)
      → ((n : ℕ) → has (present k.heap.slots ++ k.heap.holds ++ pending_numbers a.world.pending) n ≡ true → P n)
      → ((n : ℕ) → value ≡ Some n → P n) → (n : ℕ)
      → has (present (slice_set k.heap.slots i value) ++ k.heap.holds ++ pending_numbers a.world.pending) n ≡ true
      → P n
  each_root_of_set P i value before now n root =
      grind (arith, root_cases, has-present_set, slot_root, hold_root, pending_root)

  -- so all of them are there, if that value is
  pub named_of_set : (i : ℕ) (value : Option ℕ) → ((n : ℕ) → value ≡ Some n → is_there k.heap.objects n ≡ true)
      → (n : ℕ)
      → has (present (slice_set k.heap.slots i value) ++ k.heap.holds ++ pending_numbers a.world.pending) n ≡ true
      → is_there k.heap.objects n ≡ true
  named_of_set i value there =
      each_root_of_set (λ n. is_there k.heap.objects n ≡ true) i value root_is_there there

module _ (k : CycleHeap) (a : State) (stands : MarkStands k a) (begun : is_in_cycle k.phase ≡ true) where
  -- a root isn't white
  pub root_is_not_white : (n : ℕ)
      → has (present k.heap.slots ++ k.heap.holds ++ pending_numbers a.world.pending) n ≡ true → is_white k n ≡ false
  root_is_not_white n root = grind arith

  -- nor is what a slot holds
  pub slot_is_not_white : (m s n : ℕ) → slot_at k.heap m s ≡ Some n → is_white k n ≡ false
  slot_is_not_white m s n is = search (root_is_not_white, slot_root, has-present_at)

  -- where a slot is set to a value, no root is white but for that value
  pub roots_of_set : (i : ℕ) (value : Option ℕ) (todo : List ℕ)
      → ((n : ℕ) → value ≡ Some n → (is_white k n ≡ false) ⊎ (has todo n ≡ true)) → (n : ℕ)
      → has (present (slice_set k.heap.slots i value) ++ k.heap.holds ++ pending_numbers a.world.pending) n ≡ true
      → (is_white k n ≡ false) ⊎ (has todo n ≡ true)
  roots_of_set i value todo allowed =
      each_root_of_set k a stands (λ n. (is_white k n ≡ false) ⊎ (has todo n ≡ true)) i value
      (λ n root. inl (root_is_not_white n root)) allowed

  -- and leads to nothing white
  pub lead_is_not_white : is_in k.phase Marking ≡ false → (m n : ℕ) → is_white k m ≡ false
      → has (targets_at (is_kept k.policy) k.heap.objects m) n ≡ true → is_white k n ≡ false
  lead_is_not_white quiet m n other target = grind arith

-- what a slot holds isn't due to be swept
pub slot_is_not_due : (k : CycleHeap) (a : State) (m s n : ℕ) → MarkStands k a → slot_at k.heap m s ≡ Some n
    → is_due k n ≡ false
slot_is_not_due k a m s n stands is = grind (arith, slot_is_not_white)

-- where a cycle has begun, the object isn't white
held_off : (k : CycleHeap) (a : State) (m s : ℕ) → MarkStands k a → is_in_cycle k.phase ≡ true → (held : Option ℕ)
    → slot_at k.heap m s ≡ held → any_is (is_white k) held ≡ false
held_off k a m s stands begun None is = refl
held_off k a m s stands begun (Some n) is = slot_is_not_white k a stands begun m s n is

-- a slot's object isn't white
pub slot_off : (k : CycleHeap) (a : State) (m s : ℕ) → MarkStands k a → is_in_cycle k.phase ≡ true
    → any_is (is_white k) (slot_at k.heap m s) ≡ false
slot_off k a m s stands begun = held_off k a m s stands begun (slot_at k.heap m s) refl
