-- A cycle's begin: nothing is marked, then all roots become grey.
use Rattle.ref_mark.proofs.Common.{◌≡◌, ℕ, ◌+◌, ◌<◌, Bool, true, false, not, refl, sym, ap, subst, ◌∙◌, arith, [], ◌∷◌}
use Rattle.ref_mark.proofs.Common.{◌++◌, length, None, inl, inr, and_parts, false≢true, AreDistinct, has, Graph}
use Rattle.ref_mark.proofs.Common.{is_there, is_kept, graph_of, pending_numbers, is_in, is_empty, State, HeapAccepts}
use Rattle.ref_mark.proofs.Common.{Urgency, Idle, Sweeping, CycleHeap, is_black, shaded_all, roots_of, whitened}
use Rattle.ref_mark.proofs.Common.{cycle_begun, MarkStands, List, Object, numbers}
use Rattle.ref_base.specs.Refusals.{begin_refusal}
use Rattle.ref_base.specs.Replay.{begun as world_begun}
use Rattle.ref_base.specs.CollectorRows.{begun_state, emptied, free_cells}
use Rattle.ref_base.proofs.HasLaws.{has-left}
use Rattle.ref_base.proofs.PathLaws.{root_ends, target_ends}
use Rattle.ref_mark.proofs.Shading.{MarkingBut, shaded_all-only, shaded_all-append, shaded_all_marking, some_left}
use Rattle.ref_mark.proofs.RootFacts.{plain_there}
use Rattle.ref_mark.proofs.HealedMarks.{AreUnscanned}
use Rattle.ref_mark.proofs.PlainStates.{plain_state, plain_state-is, marking_stands}
use Rattle.ref_base.proofs.FoundLists.{joined-emptied, length-emptied, AreFound-emptied}
use Rattle.ref_base.specs.declared.heap_step.HeapStep.TheVariants as heap
use Rattle.ref_base.specs.declared.plain_step.PlainStep.TheVariants as plain
use Rattle.ref_base.specs.declared.reply.Reply.TheVariants as replies

-- the state that begins, in which it is said so whether an object is left
abbrev pub state_begun : CycleHeap → State → ℕ → Urgency → Bool → State
state_begun k a now urgent left =
    let s = plain_state k Idle a in
    let c = begun_state s (world_begun s.world (free_cells s.world.heap) now urgent (k.cycle + 1)) in
    record c { moments = graph_of c.world ∷ []; left = left }

-- all roots are still to be shaded
whitened_marking : (k : CycleHeap) (a : State) (now : ℕ) (urgent : Urgency) (left : Bool)
    → ((n : ℕ) → is_there k.heap.objects n ≡ true → n < k.next) → length a.scanned ≡ length k.found
    → MarkingBut (whitened k now urgent) (state_begun k a now urgent left)
    ((graph_of (state_begun k a now urgent left).world).roots ++ []) []
whitened_marking k a now urgent left below same =
    let w = whitened k now urgent in
    let b = state_begun k a now urgent left in
    let g : Graph = graph_of b.world in
    let white : (n : ℕ) → is_black w n ≡ true → ⊥ =
    λ n black. false≢true (and_parts (is_there w.heap.objects n) false black).1 in
    record {
      facts = record {
        rooted = λ n root. inr (has-left g.roots [] n root);
        closed = λ m n black target. absurd (white m black);
      };
      coloured = record {
        distinct = tt;
        grey_there = λ n grey. absurd (false≢true grey);
        grey_marked = λ n grey. absurd (false≢true grey);
        grey_old = λ n grey. absurd (false≢true grey);
        scanned_black = λ n scanned.
            absurd (false≢true (sym (ap (λ ns. has ns n) (joined-emptied a.scanned)) ∙ scanned));
        black_scanned = λ n old black. absurd (white n black);
        since = λ n there late. let early : n < k.next = below n there in absurd (omega (arith, early, late));
      };
      reached = record {
        marked_ever = λ n there marked. absurd (false≢true marked);
        goes_on = λ m n ever target there.
            elim ever [
              | inl kept ↦ inl (target_ends (is_kept w.policy) g m n kept target there)
              | inr none ↦ absurd none
            ];
      };
      found = record {
        are_found = AreFound-emptied k.heap.objects a.scanned k.found same;
        once = subst AreDistinct (sym (joined-emptied k.found)) tt;
        all_found = λ n black refers. absurd (white n black);
      };
    }

-- the mark that begins, once all roots are shaded
abbrev mark_begun : CycleHeap → State → ℕ → Urgency → CycleHeap
mark_begun k a now urgent =
    shaded_all (whitened k now urgent) (roots_of k.heap ++ pending_numbers a.world.pending)

mark_begun-is : (k : CycleHeap) (a : State) (now : ℕ) (urgent : Urgency)
    → mark_begun k a now urgent ≡ shaded_all (cycle_begun k now urgent) (pending_numbers a.world.pending)
mark_begun-is k a now urgent =
    shaded_all-append (whitened k now urgent) (roots_of k.heap) (pending_numbers a.world.pending)

mark_begun-only : (k : CycleHeap) (a : State) (now : ℕ) (urgent : Urgency)
    → mark_begun k a now urgent
    ≡ record (whitened k now urgent) {
      marked = (mark_begun k a now urgent).marked;
      grey = (mark_begun k a now urgent).grey;
    }
mark_begun-only k a now urgent =
    shaded_all-only (whitened k now urgent) (roots_of k.heap ++ pending_numbers a.world.pending)

-- then what holds in a mark holds
begun_marking : (k : CycleHeap) (a : State) (now : ℕ) (urgent : Urgency) (left : Bool) → MarkStands k a
    → MarkingBut (mark_begun k a now urgent) (state_begun k a now urgent left) [] []
begun_marking k a now urgent left stands =
    let w = whitened k now urgent in
    let b = state_begun k a now urgent left in
    let g : Graph = graph_of b.world in
    shaded_all_marking w b g.roots [] [] (λ n root there. inl (root_ends (is_kept w.policy) g n there root))
    (whitened_marking k a now urgent left stands.orderly.below (stands.scanners ∙ sym stands.finders))

-- no object was scanned yet
all_unscanned : (k : CycleHeap) (a : State) (now : ℕ) (how : Urgency)
    → ((n : ℕ) → is_there k.heap.objects n ≡ true → n < k.next)
    → AreUnscanned (whitened k now how) k.next (emptied a.scanned)
all_unscanned k a now how below n within =
    let there : is_there k.heap.objects n ≡ true = numbered k.heap.objects n within in
    (there, below n there, ap (λ ns. has ns n) (joined-emptied a.scanned))
  where
    numbered : (os : List Object) (n : ℕ) → has (numbers os) n ≡ true → is_there os n ≡ true
    numbered [] n within = within
    numbered (o ∷ os) n within = grind (arith, numbered os n)

begun_stands : (k : CycleHeap) (a : State) (now : ℕ) (urgent : Urgency) → MarkStands k a → k.phase ≡ Idle
    → MarkStands (mark_begun k a now urgent)
    (state_begun k a now urgent (not (is_empty (mark_begun k a now urgent).grey)))
begun_stands k a now urgent stands idle =
    let j : CycleHeap = mark_begun k a now urgent in
    let b = state_begun k a now urgent (not (is_empty j.grey)) in
    let only = mark_begun-only k a now urgent in
    subst (λ (i : CycleHeap). MarkStands i b) (sym only)
    (marking_stands (record (whitened k now urgent) { marked = j.marked; grey = j.grey }) b refl refl refl (omega arith)
    (record {
      rising = stands.orderly.rising;
      below = stands.orderly.below;
      slots = stands.orderly.slots;
    }) (length-emptied a.scanned ∙ stands.scanners)
    (length-emptied k.found ∙ stands.finders)
    (plain_there k a stands (ap (λ p. is_in p Sweeping) idle)
    (record (whitened k now urgent) { marked = j.marked; grey = j.grey }) refl)
    (all_unscanned k a now urgent stands.orderly.below) stands.moved
    (subst (λ (i : CycleHeap). MarkingBut i b [] []) only
    (begun_marking k a now urgent (not (is_empty j.grey)) stands)))

begun_is_row : (k : CycleHeap) (a : State) (now : ℕ) (urgent : Urgency) → MarkStands k a
    → HeapAccepts (plain_state k Idle a) (heap.Plain (plain.Begin now urgent)) (replies.Cycle (k.cycle + 1))
    (state_begun k a now urgent (not (is_empty (mark_begun k a now urgent).grey)))
begun_is_row k a now urgent stands =
    let j : CycleHeap = mark_begun k a now urgent in
    let left : Bool = not (is_empty j.grey) in
    let b = state_begun k a now urgent left in
    let but : MarkingBut j b [] [] = begun_marking k a now urgent left stands in
    let policy : b.world.policy ≡ j.policy =
    sym (ap (λ (i : CycleHeap). i.policy) (mark_begun-only k a now urgent)) in
    (refl, (left, refl, λ some. some_left j b but.coloured but.reached policy some))

-- a begin that isn't refused
pub begin_row : (k : CycleHeap) (a : State) (now : ℕ) (urgent : Urgency) → MarkStands k a
    → begin_refusal k.phase k.heap.clock k.cycle now ≡ None
    → (b : State) × HeapAccepts a (heap.Plain (plain.Begin now urgent)) (replies.Cycle (k.cycle + 1)) b
    × MarkStands (shaded_all (cycle_begun k now urgent) (pending_numbers a.world.pending)) b
begin_row k a now urgent stands none =
    grind (
      arith,
      plain_state-is k a,
      begun_is_row k a now urgent stands,
      mark_begun-is k a now urgent,
      begun_stands k a now urgent stands,
    )
