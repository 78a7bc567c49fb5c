-- What is pending is there, is reached, and stays cleared.
use Rattle.ref_clear.proofs.Common.{arith, ◌≡◌, ℕ, true, false, List, ◌++◌, has, is_there, present, one_more}
use Rattle.ref_clear.proofs.Common.{pending_numbers, State, CycleHeap, is_white, is_in_cycle, is_doomed, ClearHeap}
use Rattle.ref_clear.proofs.Common.{HeapStands, ArePending}
use Rattle.ref_base.proofs.OneMore.{has-one_more}
use Rattle.ref_mark.proofs.RootFacts.{slot_root, hold_root, pending_root, root_cases, root_is_there, root_is_not_white}
use Rattle.ref_clear.proofs.KeptReferences.{KeepsReferences}

-- ---- roots

-- where there is one hold more of a root, and nothing new is pending, each root was one before
pub root_before : (slots holds pending fewer : List ℕ) (n : ℕ) → has (slots ++ holds ++ pending) n ≡ true
    → ((m : ℕ) → has fewer m ≡ true → has pending m ≡ true) → (m : ℕ)
    → has (slots ++ one_more holds n ++ fewer) m ≡ true → has (slots ++ holds ++ pending) m ≡ true
root_before slots holds pending fewer n root was m after =
    grind (arith, root_cases, slot_root, has-one_more, hold_root, pending_root)

module _ (c : ClearHeap) (a : State) (n : ℕ) (stands : HeapStands c a)
    (waits : has (pending_numbers c.pending) n ≡ true) where
  -- what is pending is a root
  pub pending_is_root :
      has (present c.mark.heap.slots ++ c.mark.heap.holds ++ pending_numbers a.world.pending) n ≡ true
  pending_is_root = grind (arith, pending_root)

  pub pending_is_there : is_there c.mark.heap.objects n ≡ true
  pending_is_there = root_is_there c.mark a stands.mark n pending_is_root

  pub pending_is_not_white : is_in_cycle c.mark.phase ≡ true → is_white c.mark n ≡ false
  pending_is_not_white begun = root_is_not_white c.mark a stands.mark begun n pending_is_root

  pub pending_is_not_doomed : is_doomed c.mark n ≡ false
  pending_is_not_doomed = grind (arith, pending_is_not_white)

-- ---- what waits to be handed on

-- where there are as many workers as before, and no reference gets a referent, what is pending goes on waiting
-- in another heap too, of the same configuration, in which what is cleared stays so
pub waiting_still : (c : ClearHeap) (a : State) → HeapStands c a → (j : CycleHeap) → j.heap.config ≡ c.mark.heap.config
    → KeepsReferences c.mark.heap j.heap → ArePending j c.pending
waiting_still c a stands j config stays = grind (arith, pending_is_there)
