-- A heap that a mutator changed stands for the state that the row of the abstract collector gives.
use Rattle.ref_mark.proofs.Common.{◌≡◌, ℕ, ◌≤◌, Bool, true, false, not, refl, sym, ap, subst, ◌∙◌, arith, List, [], ◌∷◌}
use Rattle.ref_mark.proofs.Common.{inl, inr, cases_Bool, true≢false, or_right, Heap, IsOrderly, World, with_heap}
use Rattle.ref_mark.proofs.Common.{graph_of, pending_numbers, is_in, is_empty, State, ticked, Phase, Idle, Marking}
use Rattle.ref_mark.proofs.Common.{Clearing, Sweeping, Moving, is_in_cycle, CycleHeap, is_past_mark, MarkStands}
use Rattle.ref_mark.proofs.Common.{ReadsAs}
use Rattle.ref_mark.proofs.Agreeing.{agrees_same, same_before}
use Rattle.ref_mark.proofs.Shading.{MarkingBut}
use Rattle.ref_mark.proofs.DoomedLists.{shown_heap-before}
use Rattle.ref_mark.proofs.HealedMarks.{AreUnscanned, unscanned_healed, unhealed_unscanned}
use Rattle.ref_mark.proofs.Mutations.{Change, mutated, IsMutation, graph_after, mutated_state, mutated_marking}

-- ---- phases

pub marking_is_in_cycle : (phase : Phase) → is_in phase Marking ≡ true → is_in_cycle phase ≡ true
marking_is_in_cycle Idle marking = marking
marking_is_in_cycle Marking marking = refl
marking_is_in_cycle Clearing marking = refl
marking_is_in_cycle Sweeping marking = refl
marking_is_in_cycle Moving marking = marking

pub marking_is_not_past : (phase : Phase) → is_in phase Marking ≡ true → is_past_mark phase ≡ false
marking_is_not_past Idle marking = refl
marking_is_not_past Marking marking = refl
marking_is_not_past Clearing marking = sym marking
marking_is_not_past Sweeping marking = sym marking
marking_is_not_past Moving marking = refl

marking_is_not : (phase : Phase) → is_in phase Marking ≡ true
    → (is_in phase Clearing ≡ false) × (is_in phase Sweeping ≡ false)
marking_is_not Idle marking = (refl, refl)
marking_is_not Marking marking = (refl, refl)
marking_is_not Clearing marking = (sym marking, refl)
marking_is_not Sweeping marking = (refl, sym marking)
marking_is_not Moving marking = (refl, refl)

pub sweeping_is_past : (phase : Phase) → is_in phase Sweeping ≡ true → is_past_mark phase ≡ true
sweeping_is_past phase sweeping = or_right (is_in phase Clearing) (is_in phase Sweeping) sweeping

-- ---- what a tick leaves

pub ticked_marking : (a : State) → is_in a.world.phase Marking ≡ true
    → ticked a ≡ record a { moments = graph_of a.world ∷ a.moments }
ticked_marking a marking = simp marking refl

pub ticked_other : (a : State) → is_in a.world.phase Marking ≡ false → ticked a ≡ a
ticked_other a other = simp other refl

-- ---- in a mark

-- the one world is in the other's cycle and phase; their hands, queues and pending references may differ
pub record IsAlongside (v w : World) : Type 0 where
  pub policy : w.policy ≡ v.policy
  pub cycle : w.cycle ≡ v.cycle
  pub phase : w.phase ≡ v.phase

pub alongside_itself : (w : World) → IsAlongside w w
alongside_itself w = record { policy = refl; cycle = refl; phase = refl }

module _ (k : CycleHeap) (c : Change) (a : State) (w : World) (beside : IsAlongside a.world w) (todo : List ℕ)
    (stands : MarkStands k a) (mutation : IsMutation k c (pending_numbers w.pending) todo) where
  orderly_after : IsOrderly (mutated k c).heap c.next
  orderly_after = grind arith

  born_after : a.born ≤ c.next
  born_after = grind arith

  unscanned_after : (marking : is_in k.phase Marking ≡ true) → AreUnscanned (mutated k c) a.born a.scanned
  unscanned_after marking n unhealed = grind (arith, unhealed_unscanned k a stands marking n)

  -- what holds in a mark makes a state that the mutated heap stands for, also where more of it is marked and grey
  pub marking_stands : (marked grey : List ℕ) (left : Bool) → is_in k.phase Marking ≡ true
      → let b = mutated_state a (with_heap w (mutated k c).heap) c.next
      (graph_after c (pending_numbers w.pending) ∷ a.moments) left in
      MarkingBut (record (mutated k c) { marked = marked; grey = grey }) b [] []
      → left ≡ not (is_empty grey) → MarkStands (record (mutated k c) { marked = marked; grey = grey }) b
  marking_stands marked grey left marking but left_is =
      let j : CycleHeap = record (mutated k c) { marked = marked; grey = grey } in
      let before : is_past_mark k.phase ≡ false = marking_is_not_past k.phase marking in
      record {
        heap = agrees_same j (mutated k c).heap (sym (shown_heap-before j before));
        next = refl;
        policy = beside.policy ∙ stands.policy;
        cycle = beside.cycle ∙ stands.cycle;
        phase = beside.phase ∙ stands.phase;
        doomed = stands.doomed ∙ simp before refl;
        born = born_after;
        orderly = record { rising = mutation.rising; below = orderly_after.below; slots = orderly_after.slots };
        scanners = stands.scanners;
        finders = stands.finders;
        there = record {
          named = mutation.named;
          led = λ m n due target.
              let quiet : is_in k.phase Sweeping ≡ false = (marking_is_not k.phase marking).1 in
              mutation.led m n (simp quiet refl) target;
        };
        healed = unscanned_healed j a.born a.scanned marking but.coloured (unscanned_after marking);
        moved = stands.moved ∙ sym mutation.choice;
        facts = λ begun. but.facts;
        marking = λ again. record { coloured = but.coloured; reached = but.reached; found = but.found; left = left_is };
        clearing = λ clearing. absurd (true≢false (sym clearing ∙ (marking_is_not k.phase marking).0));
        sweeping = λ sweeping. absurd (true≢false (sym sweeping ∙ (marking_is_not k.phase marking).1));
      }

-- what holds in a mark
pub in_mark : (k : CycleHeap) (a : State) → MarkStands k a → is_in k.phase Marking ≡ true → MarkingBut k a [] []
in_mark k a stands marking = grind arith

-- ---- before a mark and after it

module _ (k : CycleHeap) (c : Change) (a : State) (w : World) (beside : IsAlongside a.world w) (stands : MarkStands k a)
    (mutation : IsMutation k c (pending_numbers w.pending) []) where
  quiet_stands : (h : Heap) → is_in k.phase Marking ≡ false → ReadsAs (mutated k c) h
      → MarkStands (mutated k c) (record a { world = with_heap w h; next = c.next })
  quiet_stands h quiet heap = grind arith

  marked_stands : (h : Heap) → is_in k.phase Marking ≡ true → h ≡ (mutated k c).heap
      → MarkStands (mutated k c) (mutated_state a (with_heap w h) c.next (graph_of (with_heap w h) ∷ a.moments) a.left)
  marked_stands h marking heap =
      subst
      (λ (g : Heap).
      MarkStands (mutated k c) (mutated_state a (with_heap w g) c.next (graph_of (with_heap w g) ∷ a.moments) a.left))
      (sym heap)
      (marking_stands k c a w beside [] stands mutation c.marked k.grey a.left marking
      (mutated_marking k c a w [] a.left mutation (marking_is_in_cycle k.phase marking) stands.orderly.below stands.born
      (in_mark k a stands marking)) (stands.marking marking).left)

  -- the row says nothing anew
  pub mutated_beside : (h : Heap) (next : ℕ) → ReadsAs (mutated k c) h → next ≡ c.next
      → MarkStands (mutated k c) (ticked (record a { world = with_heap w h; next = next }))
  mutated_beside h next heap same =
      let b : State = record a { world = with_heap w h; next = c.next } in
      let phase : w.phase ≡ k.phase = beside.phase ∙ stands.phase in
      let goal : MarkStands (mutated k c) (ticked b) =
      elim (cases_Bool (is_in k.phase Marking)) [
        | inl marking ↦
            let now : is_in w.phase Marking ≡ true = ap (λ p. is_in p Marking) phase ∙ marking in
            let early : is_past_mark k.phase ≡ false = marking_is_not_past k.phase marking in
            subst (MarkStands (mutated k c)) (sym (ticked_marking b now))
            (marked_stands h marking (same_before (mutated k c) h early heap ∙ shown_heap-before (mutated k c) early))
        | inr quiet ↦
            let still : is_in w.phase Marking ≡ false = ap (λ p. is_in p Marking) phase ∙ quiet in
            subst (MarkStands (mutated k c)) (sym (ticked_other b still)) (quiet_stands h quiet heap)
      ] in
      subst (λ n. MarkStands (mutated k c) (ticked (record a { world = with_heap w h; next = n }))) (sym same) goal

-- where hands, queues and pending references stay as they are
pub mutated_stands : (k : CycleHeap) (c : Change) (a : State) → MarkStands k a
    → IsMutation k c (pending_numbers a.world.pending) [] → (h : Heap) (next : ℕ) → ReadsAs (mutated k c) h
    → next ≡ c.next → MarkStands (mutated k c) (ticked (record a { world = with_heap a.world h; next = next }))
mutated_stands k c a stands mutation = mutated_beside k c a a.world (alongside_itself a.world) stands mutation
