-- A row that gives out an object: in a mark the barrier shades it, and it is said anew whether an object is left.
use Rattle.ref_mark.proofs.Common.{◌≡◌, ℕ, true, false, not, refl, sym, ap, subst, ◌∙◌, [], ◌∷◌, Some, inl, inr}
use Rattle.ref_mark.proofs.Common.{cases_Bool, has, is_there, is_kept, EverKept, Heap, World, with_heap}
use Rattle.ref_mark.proofs.Common.{pending_numbers, is_in, is_empty, State, ticked, Marking, CycleHeap, shaded, barred}
use Rattle.ref_mark.proofs.Common.{ReadsAs, MarkStands}
use Rattle.ref_base.specs.CollectorRows.{with_world, IsBut, GivesAnew, GivesAnewIf}
use Rattle.ref_base.specs.declared.reply.Reply.{Reply}
use Rattle.ref_base.proofs.PathLaws.{root_ends}
use Rattle.ref_mark.proofs.Agreeing.{same_before}
use Rattle.ref_mark.proofs.Shading.{MarkingBut, shaded_marking, shaded-only, some_left}
use Rattle.ref_mark.proofs.DoomedLists.{shown_heap-before}
use Rattle.ref_mark.proofs.Mutations.{Change, mutated, IsMutation, roots_after, graph_after, mutated_state}
use Rattle.ref_mark.proofs.Mutations.{mutated_marking}
use Rattle.ref_mark.proofs.MutatedStates.{IsAlongside, in_mark, marking_stands, mutated_beside, marking_is_in_cycle}
use Rattle.ref_mark.proofs.MutatedStates.{marking_is_not_past, ticked_marking}

module _ (k : CycleHeap) (c : Change) (a : State) (w : World) (beside : IsAlongside a.world w) (n : ℕ)
    (stands : MarkStands k a)
    (root : has (roots_after c (pending_numbers w.pending)) n ≡ true) where
  -- the state that says anew whether an object is left
  abbrev state_anew : State
  state_anew =
      mutated_state a (with_heap w (mutated k c).heap) c.next (graph_after c (pending_numbers w.pending) ∷ a.moments)
      (not (is_empty (shaded (mutated k c) n).grey))

  -- in a mark: the object is a root after the mutation, and becomes grey if it is white
  shaded_stands : IsMutation k c (pending_numbers w.pending) (n ∷ []) → is_in k.phase Marking ≡ true
      → MarkStands (shaded (mutated k c) n) state_anew
  shaded_stands mutation marking =
      let g = graph_after c (pending_numbers w.pending) in
      let new : CycleHeap = shaded (mutated k c) n in
      let left = not (is_empty new.grey) in
      let ever : is_there c.objects n ≡ true → EverKept k.policy (g ∷ a.moments) n =
      λ there. inl (root_ends (is_kept k.policy) g n there root) in
      let after : MarkingBut new state_anew [] [] =
      shaded_marking (mutated k c) state_anew n [] [] ever
      (mutated_marking k c a w (n ∷ []) left mutation (marking_is_in_cycle k.phase marking) stands.orderly.below
      stands.born (in_mark k a stands marking)) in
      let only = shaded-only (mutated k c) n in
      subst (λ (j : CycleHeap). MarkStands j state_anew) (sym only)
      (marking_stands k c a w beside (n ∷ []) stands mutation new.marked new.grey left marking
      (subst (λ (j : CycleHeap). MarkingBut j state_anew [] []) only after) refl)

  anew_in_mark : IsMutation k c (pending_numbers w.pending) (n ∷ []) → is_in k.phase Marking ≡ true → a.next ≡ c.next
      → (b : State) × IsBut (ticked (with_world a (with_heap w (mutated k c).heap))) b
      × MarkStands (shaded (mutated k c) n) b
  anew_in_mark mutation marking next =
      let new : CycleHeap = shaded (mutated k c) n in
      let base : State = with_world a (with_heap w (mutated k c).heap) in
      let left = not (is_empty new.grey) in
      let then : MarkStands new state_anew = shaded_stands mutation marking in
      let still : is_in new.phase Marking ≡ true =
      ap (λ (j : CycleHeap). is_in j.phase Marking) (shaded-only (mutated k c) n) ∙ marking in
      let now : is_in base.world.phase Marking ≡ true =
      ap (λ p. is_in p Marking) (beside.phase ∙ stands.phase) ∙ marking in
      let same : state_anew ≡ record (ticked base) { left = left } =
      ap (λ (i : ℕ).
      record a {
        world = base.world;
        next = i;
        moments = graph_after c (pending_numbers w.pending) ∷ a.moments;
        left = left;
      }) (sym next)
      ∙ ap (λ (s : State). record s { left = left }) (sym (ticked_marking base now)) in (
        state_anew,
        (
          left,
          same,
          λ some.
              some_left new state_anew (then.marking still).coloured (then.marking still).reached then.policy some,
        ),
        then,
      )

  -- The row gives out n, which is a root after the mutation: in a mark it may be white until it is shaded.
  pub barred_row : (h : Heap) (answer : Reply)
      → (is_in k.phase Marking ≡ true → IsMutation k c (pending_numbers w.pending) (n ∷ []))
      → (is_in k.phase Marking ≡ false → IsMutation k c (pending_numbers w.pending) [])
      → c.next ≡ k.next → ReadsAs (mutated k c) h
      → (b : State) × GivesAnew answer (with_world a (with_heap w h)) answer b
      × MarkStands (barred (mutated k c) (Some n)) b
  barred_row h answer mutation_in_mark mutation_else next heap =
      let base : State = with_world a (with_heap w h) in
      elim (cases_Bool (is_in k.phase Marking)) [
        | inl marking ↦
            let now : is_in w.phase Marking ≡ true = ap (λ p. is_in p Marking) (beside.phase ∙ stands.phase)
            ∙ marking in
            let shades : barred (mutated k c) (Some n) ≡ shaded (mutated k c) n = simp marking refl in
            let early = marking_is_not_past k.phase marking in
            let is : h ≡ (mutated k c).heap =
            same_before (mutated k c) h early heap ∙ shown_heap-before (mutated k c) early in
            let row = anew_in_mark (mutation_in_mark marking) marking (stands.next ∙ sym next) in (
              row.0,
              subst (λ x. GivesAnewIf x answer base answer row.0) (sym now)
                  (refl, subst (λ (g : Heap). IsBut (ticked (with_world a (with_heap w g))) row.0) (sym is) row.1),
              subst (λ (j : CycleHeap). MarkStands j row.0) (sym shades) row.2,
            )
        | inr quiet ↦
            let now : is_in w.phase Marking ≡ false = ap (λ p. is_in p Marking) (beside.phase ∙ stands.phase) ∙ quiet in
            let rests : barred (mutated k c) (Some n) ≡ mutated k c = simp quiet refl in (
              ticked base,
              subst (λ x. GivesAnewIf x answer base answer (ticked base)) (sym now) (refl, refl),
              subst (λ (j : CycleHeap). MarkStands j (ticked base)) (sym rests)
                  (mutated_beside k c a w beside stands (mutation_else quiet) h a.next heap (stands.next ∙ sym next)),
            )
      ]
