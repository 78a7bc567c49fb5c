-- What a begin of the marker is to the heap.
use Rattle.ref_clear.proofs.Common.{◌≡◌, ℕ, ◌+◌, List, Option, Some, None, refl, ap, ◌∙◌, joined, pending_numbers}
use Rattle.ref_clear.proofs.Common.{Fault, Urgency, CycleHeap, cycle_begun, shaded_all, unless_refused, ClearHeap}
use Rattle.ref_clear.proofs.Common.{with_mark, begun_with, refusal_in, after_in, seen_lists, AreSoundLists, MarkerDoes}
use Rattle.ref_clear.proofs.Common.{HeapDoes}
use Rattle.ref_clear.proofs.MarkedHeaps.{seen_shaded, sound_shaded}
use Rattle.ref_base.specs.declared.heap_step.HeapStep.TheVariants as heap
use Rattle.ref_base.specs.declared.plain_step.PlainStep.TheVariants as plain
use Rattle.ref_base.specs.declared.reply.Reply.TheVariants as replies

module _ {k j : CycleHeap} {lists : List (List ℕ)} {condemned : List ℕ} {now : ℕ} {how : Urgency}
    (sound : AreSoundLists k lists condemned) where
  -- where the marker refuses it, nothing changes
  module _ {fault : Fault} (does : MarkerDoes k (heap.Plain (plain.Begin now how)) (replies.Refused fault) j) where
    pub refused_by : (refused : Option Fault)
        → replies.Refused fault ≡ unless_refused refused replies.Refused (replies.Cycle (k.cycle + 1))
        → with_mark (seen_lists k lists) (unless_refused refused (λ f. k) (cycle_begun k now how))
        ≡ unless_refused refused (λ f. seen_lists k lists) (begun_with (seen_lists k lists) now how)
    refused_by None answer = absurd (cc)
    refused_by (Some first) answer = refl

  -- and else the pending references are shaded
  module _ {n : ℕ} {i : CycleHeap} {ls : List (List ℕ)}
      (does : MarkerDoes k (heap.Plain (plain.Begin now how)) (replies.Cycle n) j)
      (shades : i ≡ shaded_all j (joined ls)) (same : ls ≡ lists) where
    begun_by : (refused : Option Fault)
        → replies.Cycle n ≡ unless_refused refused replies.Refused (replies.Cycle (k.cycle + 1))
        → j ≡ unless_refused refused (λ f. k) (cycle_begun k now how)
        → with_mark (seen_lists k lists) (shaded_all j (pending_numbers (seen_lists k lists).pending))
        ≡ unless_refused refused (λ f. seen_lists k lists) (begun_with (seen_lists k lists) now how)
    begun_by None answer after = cc
    begun_by (Some first) answer after = absurd (cc)

    shades_lists : i ≡ shaded_all j (joined lists)
    shades_lists = shades ∙ ap (λ (own : List (List ℕ)). shaded_all j (joined own)) same

    pub left : seen_lists i lists ≡ after_in (seen_lists k lists) (heap.Plain (plain.Begin now how))
    left =
        seen_shaded sound does shades_lists
        ∙ begun_by (refusal_in (seen_lists k lists) (heap.Plain (plain.Begin now how))) does.answer does.after

    pub does_begun : {d : ClearHeap} → seen_lists k lists ≡ d
        → HeapDoes d (heap.Plain (plain.Begin now how)) (replies.Cycle n) (seen_lists i lists)
    does_begun view =
        rw (← view) (record { answer = does.answer; after = left })

    pub sound_begun : AreSoundLists i lists condemned
    sound_begun = sound_shaded sound does shades_lists refl left
