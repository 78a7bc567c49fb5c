-- The chains of pending references stay as they are where the links in them do, and what is found isn't pending.
use Rattle.ref_clear.proofs.Common.{Worklist, ◌≡◌, ℕ, true, false, ◌==◌, refl, sym, ap, subst, ◌∙◌, arith, List, []}
use Rattle.ref_clear.proofs.Common.{◌∷◌, ◌++◌, zero, suc, Option, Some, None, inl, inr, ◌⊎◌, slice_set, cases_Bool}
use Rattle.ref_clear.proofs.Common.{or_right, true≢false, false_from_ne_true, has, referent_of, reference_at}
use Rattle.ref_clear.proofs.Common.{refers_into, joined, list_at, is_empty, Object, NamedStep, Fault, CycleHeap}
use Rattle.ref_clear.proofs.Common.{is_white, shaded_all, with_cleared, unless_refused, linked_last_of, Chain}
use Rattle.ref_clear.proofs.Common.{lists_in, seen_heap, seen_lists, AreSoundLists, IsSoundHeap, is_kept, targets_at}
use Rattle.ref_clear.proofs.Common.{Tag, Urgency, with_made, grey_scanned, cycle_begun, barred, done_in}
use Rattle.ref_clear.proofs.Common.{after_in_cycle, refusal_in_cycle}
use Rattle.ref_mark.specs.Chains.{last_of}
use Rattle.ref_mark.specs.CycleHeaps.{cycle_healed, with_found}
use Rattle.ref_base.proofs.HasLaws.{has-left, has-right, has-cases, has-single, has-first}
use Rattle.ref_base.proofs.FoundLists.{with_last, joined-emptied}
use Rattle.ref_mark.proofs.ChainLemmas.{IsSame, lists-same, same_new, same_written}
use Rattle.ref_mark.proofs.KeptParts.{cleared-tags}
use Rattle.ref_mark.proofs.Shading.{shaded_all-only}
use Rattle.ref_clear.proofs.PendingRoom.{cleared_refers_to_none}
use Rattle.std.proofs.Common.{Result, Ok, Err}
use Rattle.ref_objects.specs.Grounds.{choice_in}
use Rattle.ref_mark.specs.CycleHeaps.{chosen_by, cycle_in_phase, moves_ended}
use Rattle.ref_clear.proofs.Common.{Idle}
use Rattle.ref_base.specs.declared.heap_step.HeapStep.TheVariants as heap
use Rattle.ref_base.specs.declared.plain_step.PlainStep.TheVariants as plain

-- ---- the chains stay

-- the links of these numbers are as they were, and none of them is found
pub record KeepsLinks (k j : CycleHeap) (ps : List ℕ) : Type 0 where
  pub same : IsSame k.tags j.tags ps
  pub apart : (n : ℕ) → has (joined j.found) n ≡ true → has ps n ≡ false

module _ {k j : CycleHeap} {chains : List Chain} {condemned : Worklist} (config : j.heap.config ≡ k.heap.config)
    (keeps : KeepsLinks k j (joined (lists_in k chains))) (sound : IsSoundHeap k chains condemned) where
  pub chains_stay : lists_in j chains ≡ lists_in k chains
  chains_stay = grind (arith, lists-same)

  pub seen_still : seen_heap j chains ≡ seen_lists j (lists_in k chains)
  seen_still = ap (seen_lists j) chains_stay

  pub sound_still : (left : Worklist) → left.room ≡ condemned.room
      → AreSoundLists j (lists_in k chains) left.stands → IsSoundHeap j chains left
  sound_still left room lists = grind (arith, lists-same, chains_stay)

-- where tags and what is found are as they were
pub keeps_parts : (k j : CycleHeap) (ps : List ℕ) → j.tags ≡ k.tags → j.found ≡ k.found
    → ((n : ℕ) → has (joined k.found) n ≡ true → has ps n ≡ false) → KeepsLinks k j ps
keeps_parts k j ps tags found apart = grind arith

-- ---- the steps of marking

same_last_of : (ts : List Tag) (ms : List ℕ) (n : ℕ) (ps : List ℕ)
    → (is_empty ms ≡ false → has ps (last_of ms) ≡ false) → IsSame ts (linked_last_of ts ms n) ps
same_last_of ts [] n ps apart i within there = (refl, there)
same_last_of ts (m ∷ ms) n ps apart i within there = same_written ts (last_of (m ∷ ms)) n ps (apart refl) i within there

last-within : (m : ℕ) (ms : List ℕ) → has (m ∷ ms) (last_of (m ∷ ms)) ≡ true
last-within m [] = has-first m []
last-within m (k ∷ ms) = or_right (m == last_of (k ∷ ms)) (has (k ∷ ms) (last_of (k ∷ ms))) (last-within k ms)

last_of-within : (ms : List ℕ) → is_empty ms ≡ false → has ms (last_of ms) ≡ true
last_of-within [] full = absurd (true≢false full)
last_of-within (m ∷ ms) full = last-within m ms

within_joined : (lists : List (List ℕ)) (w n : ℕ) → has (list_at lists w) n ≡ true → has (joined lists) n ≡ true
within_joined [] w n within = within
within_joined (ns ∷ lists) zero n within = has-left ns (joined lists) n within
within_joined (ns ∷ lists) (suc w) n within = has-right ns (joined lists) n (within_joined lists w n within)

-- what stands in the lists as n went last in one of them stood there, or is n
pub grown-has : (lists : List (List ℕ)) (w n m : ℕ) → has (joined (with_last lists w n)) m ≡ true
    → (n ≡ m) ⊎ (has (joined lists) m ≡ true)
grown-has [] w n m within = inr within
grown-has (ns ∷ lists) zero n m within = grind (arith, has-cases, has-left, has-right, has-single)
grown-has (ns ∷ lists) (suc w) n m within = grind (arith, has-cases, has-left, has-right, grown-has lists w n m)

pub cleared_found : (k : CycleHeap) (m s : ℕ) → (with_cleared k m s).found ≡ k.found
cleared_found k m s = grind arith

-- none of these has a referent, and none was found
module _ (ps : List ℕ) where
  pub record AreCleared (k : CycleHeap) : Type 0 where
    pub cleared : (n : ℕ) → has ps n ≡ true → referent_of (reference_at k.heap n) ≡ None
    pub apart : (n : ℕ) → has (joined k.found) n ≡ true → has ps n ≡ false

  found_keeps : (k : CycleHeap) (w n : ℕ) → AreCleared k → KeepsLinks k (with_found k w n) ps
  found_keeps k w n are =
      elim (cases_Bool (refers_into (is_white k) (reference_at k.heap n))) [
        | inl refers ↦ simp refers (one refers)
        | inr other ↦ simp other (keeps_parts k k ps refl refl are.apart)
      ]
    where
      lacks : refers_into (is_white k) (reference_at k.heap n) ≡ true → has ps n ≡ false
      lacks refers =
          false_from_ne_true (has ps n)
          (λ within.
          true≢false (sym refers ∙ cleared_refers_to_none (is_white k) (reference_at k.heap n) (are.cleared n within)))

      one : refers_into (is_white k) (reference_at k.heap n) ≡ true
          → KeepsLinks k (record k {
            found = slice_set k.found w (list_at k.found w ++ n ∷ []);
            tags = linked_last_of k.tags (list_at k.found w) n;
          }) ps
      one refers = record {
        same = same_last_of k.tags (list_at k.found w) n ps
            (λ full. are.apart _ (within_joined k.found w _ (last_of-within (list_at k.found w) full)));
        apart = λ m within.
            elim (grown-has k.found w n m within) [
              | inl same ↦ subst (λ i. has ps i ≡ false) same (lacks refers)
              | inr before ↦ are.apart m before
            ];
      }

  scanned_keeps : (k : CycleHeap) (w : ℕ) (grey : List ℕ) → AreCleared k → KeepsLinks k (grey_scanned k w grey) ps
  scanned_keeps k w [] are = keeps_parts k k ps refl refl are.apart
  scanned_keeps k w (n ∷ rest) are =
      let one : CycleHeap = cycle_healed (record k { grey = rest }) n in
      let j : CycleHeap = shaded_all one (targets_at (is_kept k.policy) k.heap.objects n) in
      let only : j ≡ record one { marked = j.marked; grey = j.grey } =
      shaded_all-only one (targets_at (is_kept k.policy) k.heap.objects n) in
      let keeps =
      found_keeps (record one { marked = j.marked; grey = j.grey }) w n
      (record { cleared = are.cleared; apart = are.apart }) in
      subst (λ (i : CycleHeap). KeepsLinks k (with_found i w n) ps) (sym only)
      (record { same = keeps.same; apart = keeps.apart })

  made_keeps : (k : CycleHeap) (m d : ℕ) (o : Object) → AreCleared k → KeepsLinks k (with_made k m d o) ps
  made_keeps k m d o are = grind (arith, same_new k.tags o.no)

  begun_keeps : (k : CycleHeap) (now : ℕ) (how : Urgency) → KeepsLinks k (cycle_begun k now how) ps
  begun_keeps k now how = grind (arith, shaded_all-only, joined-emptied)

  barred-tags : (k : CycleHeap) (value : Option ℕ) → (barred k value).tags ≡ k.tags
  barred-tags k value = grind arith

  barred_keeps : (k : CycleHeap) (value : Option ℕ) → (barred k value).found ≡ k.found
  barred_keeps k value = grind arith

  chosen_keeps : (k : CycleHeap) (answer : Result ℕ Fault) → AreCleared k → KeepsLinks k (chosen_by k answer) ps
  chosen_keeps k (Ok count) are = keeps_parts k (chosen_by k (Ok count)) ps refl refl are.apart
  chosen_keeps k (Err fault) are = keeps_parts k k ps refl refl are.apart

  ended_keeps : (k : CycleHeap) → AreCleared k → KeepsLinks k (moves_ended k) ps
  ended_keeps k are =
      elim (cases_Bool (is_empty k.space.still_to_move)) [
        | inl none ↦ simp none (keeps_parts k (cycle_in_phase k Idle) ps refl refl are.apart)
        | inr some ↦ simp some (keeps_parts k k ps refl refl are.apart)
      ]

  done_keeps : (k : CycleHeap) (step : NamedStep) → AreCleared k → KeepsLinks k (done_in k step) ps
  done_keeps k (heap.Plain (plain.Scan w)) are = scanned_keeps k w k.grey are
  done_keeps k (heap.Plain (plain.Begin now how)) are = begun_keeps k now how
  done_keeps k (heap.Plain plain.Select) are = chosen_keeps k (choice_in k.space) are
  done_keeps k (heap.Plain plain.EndMove) are = ended_keeps k are
  done_keeps k step are = search (made_keeps, keeps_parts, barred-tags, barred_keeps, cleared-tags, cleared_found)

  unless_keeps : (k done : CycleHeap) (refused : Option Fault) → AreCleared k → KeepsLinks k done ps
      → KeepsLinks k (unless_refused refused (λ fault. k) done) ps
  unless_keeps k done None are keeps = keeps
  unless_keeps k done (Some fault) are keeps = keeps_parts k k ps refl refl are.apart

  pub marks_keep : (k : CycleHeap) (step : NamedStep) → AreCleared k → KeepsLinks k (after_in_cycle k step) ps
  marks_keep k step are = unless_keeps k (done_in k step) (refusal_in_cycle k step) are (done_keeps k step are)

-- shading does nothing to links
pub shading_keeps : (k j : CycleHeap) (ps ns : List ℕ) → KeepsLinks k j ps → KeepsLinks k (shaded_all j ns) ps
shading_keeps k j ps ns keeps = grind (arith, shaded_all-only)
