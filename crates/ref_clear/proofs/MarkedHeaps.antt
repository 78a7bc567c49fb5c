-- A step of marking leaves what is pending, and what holds of a heap.
use Rattle.ref_clear.proofs.Common.{◌≡◌, ℕ, true, List, sym, ap, subst, ◌∙◌, NamedStep, joined, pending_numbers}
use Rattle.ref_clear.proofs.Common.{CycleHeap, shaded_all, ClearHeap, with_mark, Reply, after_in, answer_in, seen_lists}
use Rattle.ref_clear.proofs.Common.{AreSoundLists, MarkerDoes, answer_in_cycle, after_in_cycle, HeapDoes}
use Rattle.ref_mark.proofs.KeptParts.{cycles_after}
use Rattle.ref_clear.proofs.KeptRows.{goes_on_sweeping}
use Rattle.ref_clear.proofs.KeptReferences.{after_stays}
use Rattle.ref_clear.proofs.KeptPending.{AreKept, seen_kept, registered_kept, kept_shaded, kept_by}
use Rattle.ref_clear.proofs.PendingLists.{pending_numbers-seen}
use Rattle.ref_clear.proofs.SoundHeaps.{sound_after}

module _ {j k : CycleHeap} {lists : List (List ℕ)} {condemned : List ℕ} {step : NamedStep} {reply : Reply}
    (sound : AreSoundLists k lists condemned) (does : MarkerDoes k step reply j) where
  marked_kept : AreKept k j lists
  marked_kept =
      subst (λ (i : CycleHeap). AreKept k i lists) (sym does.after)
      (kept_by sound (after_in_cycle k step) (after_stays k step) (cycles_after k step))

  pub seen_marked : seen_lists j lists ≡ with_mark (seen_lists k lists) (after_in_cycle k step)
  seen_marked = seen_kept k j lists marked_kept ∙ ap (with_mark (seen_lists k lists)) does.after

  pub does_marked : {c : ClearHeap} → answer_in_cycle k step ≡ answer_in (seen_lists k lists) step
      → with_mark (seen_lists k lists) (after_in_cycle k step) ≡ after_in (seen_lists k lists) step
      → seen_lists k lists ≡ c → HeapDoes c step reply (seen_lists j lists)
  does_marked told same view =
      rw (← view) (record { answer = does.answer ∙ told; after = seen_marked ∙ same })

  pub sound_marked : goes_on_sweeping step ≡ true
      → with_mark (seen_lists k lists) (after_in_cycle k step) ≡ after_in (seen_lists k lists) step
      → AreSoundLists j lists condemned
  sound_marked own same = search (sound_after, seen_marked, registered_kept, marked_kept)

  -- and so it is where what is pending is shaded then
  module _ {i : CycleHeap} (shades : i ≡ shaded_all j (joined lists)) where
    shaded_kept : AreKept k i lists
    shaded_kept =
        subst (λ (h : CycleHeap). AreKept k h lists) (sym shades)
        (λ n within. kept_shaded k j (joined lists) n (marked_kept n within))

    pub seen_shaded : seen_lists i lists
        ≡ with_mark (seen_lists k lists) (shaded_all j (pending_numbers (seen_lists k lists).pending))
    seen_shaded =
        seen_kept k i lists shaded_kept ∙ ap (with_mark (seen_lists k lists)) shades
        ∙ ap (λ ns. with_mark (seen_lists k lists) (shaded_all j ns))
        (sym (pending_numbers-seen k.heap.objects k.tags lists))

    pub sound_shaded : goes_on_sweeping step ≡ true → seen_lists i lists ≡ after_in (seen_lists k lists) step
        → AreSoundLists i lists condemned
    sound_shaded own same =
        sound_after step own sound same (registered_kept k i lists shaded_kept sound.registered)
