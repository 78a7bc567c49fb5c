-- The rows of holds: they come and go, and what is held comes into a slot.
use Rattle.ref_mark.proofs.Common.{arith, ◌≡◌, ℕ, ◌+◌, ◌*◌, true, refl, ap, subst, List, [], ◌∷◌, length, Option, Some}
use Rattle.ref_mark.proofs.Common.{None, ◌⊎◌, inl, inr, slice_set, length-set, has, present, Heap, slot_at, with_slot}
use Rattle.ref_mark.proofs.Common.{one_more, one_fewer, graph_of, pending_numbers, unless, has_slot, State, Fault}
use Rattle.ref_mark.proofs.Common.{NoSuchActor, ticked, on_heap, value_reply, HeapAccepts, CycleHeap, unless_refused}
use Rattle.ref_mark.proofs.Common.{MarkStands, ground_of}
use Rattle.ref_base.specs.Heaps.{with_hold, without_hold}
use Rattle.ref_base.specs.Refusals.{held_refusal, hold_refusal}
use Rattle.ref_base.specs.Replay.{adopted}
use Rattle.ref_base.specs.CollectorRows.{Holds}
use Rattle.ref_base.specs.declared.heap_step.HoldName.{HoldName}
use Rattle.ref_objects.specs.Grounds.{mint_refusal}
use Rattle.ref_mark.specs.MarkCalls.{with_hold_of}
use Rattle.ref_mark.specs.MarkRows.{KeepsStanding}
use Rattle.ref_base.proofs.OneMore.{has-one_more}
use Rattle.ref_mark.proofs.Mutations.{IsMutation}
use Rattle.ref_mark.proofs.MutatedStates.{mutated_stands}
use Rattle.ref_base.proofs.Lookups.{has-present_at, has-present_set}
use Rattle.ref_mark.proofs.RootFacts.{slot_root, hold_root, pending_root, root_cases}
use Rattle.ref_mark.proofs.MutationKinds.{rooted}
use Rattle.ref_base.specs.declared.heap_step.HeapStep.TheVariants as heap
use Rattle.ref_base.specs.declared.reply.Reply.TheVariants as replies

-- what is held after a hold goes was held
pub has-one_fewer : (ns : List ℕ) (n m : ℕ) → has (one_fewer ns n) m ≡ true → has ns m ≡ true
has-one_fewer [] n m held = held
has-one_fewer (i ∷ is) n m held = grind (arith, has-one_fewer is n m)

module _ (k : CycleHeap) (a : State) (stands : MarkStands k a) where
  hold_mutation : (n : ℕ) → has (graph_of a.world).roots n ≡ true
      → IsMutation k (rooted k k.heap.slots (one_more k.heap.holds n)) (pending_numbers a.world.pending) []
  hold_mutation n root = grind (arith, root_cases, slot_root, has-one_more, hold_root, pending_root)

  -- one hold more of a root
  pub hold_stands : (n : ℕ) → has (graph_of a.world).roots n ≡ true
      → MarkStands (record k { heap = with_hold k.heap n }) (ticked (on_heap a (with_hold a.world.heap n)))
  hold_stands n root =
      mutated_stands k (rooted k k.heap.slots (one_more k.heap.holds n)) a stands (hold_mutation n root)
      (with_hold a.world.heap n) a.next (ap (λ (h : Heap). with_hold h n) stands.heap) stands.next

  -- one of what a slot holds
  slot_hold_row : (m s : ℕ) (held : Option ℕ) → slot_at k.heap m s ≡ held → held_refusal k.heap held ≡ None
      → (b : State) × Holds a held (value_reply held) b × MarkStands (record k { heap = with_hold_of k.heap held }) b
  slot_hold_row m s None is accepted = absurd (cc)
  slot_hold_row m s (Some n) is accepted = grind (arith, hold_stands, slot_root, has-present_at)

  -- no slot that is set comes to hold what wasn't held, and one hold goes
  fewer_mutation : (slots : List (Option ℕ)) (n : ℕ) → length slots ≡ length k.heap.slots
      → ((m : ℕ) → has (present slots) m ≡ true → (has (present k.heap.slots) m ≡ true) ⊎ (has k.heap.holds m ≡ true))
      → IsMutation k (rooted k slots (one_fewer k.heap.holds n)) (pending_numbers a.world.pending) []
  fewer_mutation slots n count held = grind (arith, root_cases, slot_root, hold_root, has-one_fewer, pending_root)

  -- one hold fewer
  pub without_hold_stands : (n : ℕ)
      → MarkStands (record k { heap = without_hold k.heap n }) (ticked (on_heap a (without_hold a.world.heap n)))
  without_hold_stands n =
      mutated_stands k (rooted k k.heap.slots (one_fewer k.heap.holds n)) a stands
      (fewer_mutation k.heap.slots n refl (λ m slot. inl slot))
      (without_hold a.world.heap n) a.next (ap (λ (h : Heap). without_hold h n) stands.heap) stands.next

  -- and a slot holds what was held
  pub adopted_stands : (m d n : ℕ) → has k.heap.holds n ≡ true
      → MarkStands (record k { heap = with_slot (without_hold k.heap n) m d (Some n) })
      (ticked (on_heap a (with_slot (without_hold a.world.heap n) m d (Some n))))
  adopted_stands m d n held =
      let slots = slice_set k.heap.slots (16 * m + d) (Some n) in
      mutated_stands k (rooted k slots (one_fewer k.heap.holds n)) a stands
      (fewer_mutation slots n (length-set k.heap.slots (16 * m + d) (Some n))
      (λ j slot.
      elim (has-present_set k.heap.slots (16 * m + d) (Some n) j slot) [
        | inl before ↦ inl before
        | inr is ↦ inr (subst (λ i. has k.heap.holds i ≡ true) (let e : Some n ≡ Some j = is in cc) held)
      ]))
      (with_slot (without_hold a.world.heap n) m d (Some n)) a.next
      (ap (λ (h : Heap). with_slot (without_hold h n) m d (Some n)) stands.heap) stands.next

-- ---- rows

pub hold_row : (k : CycleHeap) (a : State) (m s : ℕ) → MarkStands k a
    → unless (has_slot k.heap m s) NoSuchActor (held_refusal k.heap (slot_at k.heap m s)) ≡ None
    → (b : State) × HeapAccepts a (heap.Hold m s) (value_reply (slot_at k.heap m s)) b
    × MarkStands (record k { heap = with_hold_of k.heap (slot_at k.heap m s) }) b
hold_row k a m s stands accepted = grind (arith, slot_hold_row)

pub adopt_row : (k : CycleHeap) (a : State) (m d : ℕ) (hold : HoldName) → MarkStands k a
    → unless (has_slot k.heap m d) NoSuchActor (hold_refusal k.heap hold) ≡ None
    → (b : State) × HeapAccepts a (heap.Adopt m d hold) (replies.Object hold.object) b
    × MarkStands (record k { heap = adopted k.heap m d hold.object }) b
adopt_row k a m d hold stands accepted = grind (arith, adopted_stands k a stands m d hold.object)

pub release_row : (k : CycleHeap) (a : State) (hold : HoldName) → MarkStands k a
    → (b : State) × HeapAccepts a (heap.Release hold) replies.Done b
    × MarkStands (record k { heap = without_hold k.heap hold.object }) b
release_row k a hold stands = search (without_hold_stands k a stands hold.object)

-- ---- mints

minted_by : (k : CycleHeap) (n : ℕ) (refused : Option Fault) (a : State) → MarkStands k a
    → has (graph_of a.world).roots n ≡ true
    → MarkStands (unless_refused refused (λ fault. k) (record k { heap = with_hold k.heap n }))
    (unless_refused refused (λ fault. a) (ticked (on_heap a (with_hold a.world.heap n))))
minted_by k n None a stands root = hold_stands k a stands n root
minted_by k n (Some fault) a stands root = stands

-- a hold of what a root names
pub each_mint : (k : CycleHeap) (n : ℕ) → KeepsStanding k n
each_mint k n = minted_by k n (mint_refusal (ground_of k) n)
