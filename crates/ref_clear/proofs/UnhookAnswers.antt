-- What the code of an unhook answers and leaves: where the reference is registered, the hold comes first, then the cut.
use Rattle.ref_clear.proofs.Common.{arith, ◌≡◌, ℕ, true, refl, sym, ap, subst, ◌∙◌, List, Some, None, Heap, Reference}
use Rattle.ref_clear.proofs.Common.{slot_at, reference_at, registered_in, reference_of, has_slot, Reply, holds_refusal}
use Rattle.ref_clear.proofs.Common.{Own, CycleHeap, with_cleared, mint_answer_in, after_mint_in, holding, unhooked_from}
use Rattle.ref_clear.proofs.Common.{Fault, refusal_in, queue_in, after_in, answer_of_unhook, seen_lists, with_mark}
use Rattle.ref_clear.proofs.Common.{AreRegistered, AreSoundLists, clear_refusal, ground_of, MarkerDoes, HeapDoes}
use Rattle.ref_base.specs.declared.fault.Fault.TheVariants.{NoSuchObject}
use Rattle.ref_objects.specs.Grounds.{is_spared}
use Rattle.ref_mark.proofs.KeptParts.{cleared-tags}
use Rattle.ref_clear.proofs.KeptReferences.{cleared_stays}
use Rattle.ref_clear.proofs.KeptPending.{AreKept, kept_by, seen_kept, registered_kept}
use Rattle.ref_base.proofs.RowForms.{unless_passes}
use Rattle.ref_clear.proofs.MarkedHeaps.{seen_marked}
use Rattle.ref_clear.proofs.NoticeAnswers.{mint_refused, minted, clear_holding}
use Rattle.ref_base.specs.declared.heap_step.HeapStep.TheVariants as heap
use Rattle.ref_base.specs.declared.plain_step.PlainStep.TheVariants as plain
use Rattle.ref_base.specs.declared.reply.Reply.TheVariants as replies
use Rattle.ref_mark.specs.MarkCalls as marks

-- a reference that is read is in a slot that is there
pub slot_is_there : (h : Heap) (m s : ℕ) → clear_refusal h m s ≡ None → has_slot h m s ≡ true
slot_is_there h m s read = grind arith

-- ---- the cut alone

-- of the reference r in a slot, that has no queue
module _ (k : CycleHeap) (lists : List (List ℕ)) (m s : ℕ) {n : ℕ} {r : Reference} (has : has_slot k.heap m s ≡ true)
    (held : slot_at k.heap m s ≡ Some n) (found : reference_at k.heap n ≡ Some r) (queue : r.queue ≡ None) where
  left_cut : with_mark (seen_lists k lists) (marks.after_in_cycle k (heap.Plain (plain.Clear m s)))
      ≡ after_in (seen_lists k lists) (heap.Unhook m s)
  left_cut = grind arith

  pub unhook_cut : {j : CycleHeap} {reply : Reply} {condemned : List ℕ} → AreSoundLists k lists condemned
      → MarkerDoes k (heap.Plain (plain.Clear m s)) reply j
      → HeapDoes (seen_lists k lists) (heap.Unhook m s) replies.Nothing (seen_lists j lists)
  unhook_cut sound does = record { answer = grind arith; after = seen_marked sound does ∙ left_cut }

-- ---- the hold and the cut

-- of the reference r in a slot, that has a queue
module _ {k : CycleHeap} {lists : List (List ℕ)} {condemned : List ℕ} (sound : AreSoundLists k lists condemned)
    (m s : ℕ) {n q : ℕ} {r : Reference} (has : has_slot k.heap m s ≡ true) (held : slot_at k.heap m s ≡ Some n)
    (found : reference_at k.heap n ≡ Some r)
    (queue : r.queue ≡ Some q) where
  registered : queue_in k m s ≡ Some q
  registered = ap (λ v. registered_in (reference_of k.heap v)) held ∙ ap registered_in found ∙ queue

  refusal : refusal_in (seen_lists k lists) (heap.Unhook m s) ≡ holds_refusal k.heap
  refusal = simp (has, held, found, queue) refl

  clears : marks.refusal_in_cycle (holding k n) (heap.Plain (plain.Clear m s)) ≡ None
  clears = simp (has, held, found) refl

  -- nothing pending is changed by it
  unhook_kept : AreKept k (holding (with_cleared k m s) n) lists
  unhook_kept = search (kept_by, cleared_stays, cleared-tags)

  -- where its hold is refused, nothing changes
  pub unhook_refused : {j : CycleHeap} {fault : Fault} → is_spared (ground_of k) n ≡ true
      → replies.Refused fault ≡ mint_answer_in k n → j ≡ after_mint_in k n
      → HeapDoes (seen_lists k lists) (heap.Unhook m s) (replies.Refused fault) (seen_lists j lists)
  unhook_refused {j} {fault} spared answer after =
      let mint = mint_refused k n fault answer after in
      let counted : holds_refusal k.heap ≡ Some fault = simp spared at mint.0 in
      let refused : refusal_in (seen_lists k lists) (heap.Unhook m s) ≡ Some fault = refusal ∙ counted in
      record {
        answer = simp refused refl;
        after = ap (λ (h : CycleHeap). seen_lists h lists) mint.1 ∙ simp refused refl;
      }

  pub unhook_done : {i j : CycleHeap} {object : ℕ} → replies.Object object ≡ mint_answer_in k n
      → i ≡ after_mint_in k n → j ≡ marks.after_in_cycle i (heap.Plain (plain.Clear m s))
      → HeapDoes (seen_lists k lists) (heap.Unhook m s) (replies.Notice object q Own) (seen_lists j lists)
      × AreRegistered j.heap.objects lists × (j ≡ holding (with_cleared k m s) n)
  unhook_done {i} {j} {object} answer after cut =
      let mint = minted k n object answer after in
      let counted : holds_refusal k.heap ≡ None =
      (unless_passes (is_spared (ground_of k) n) NoSuchObject (holds_refusal k.heap) mint.0).1 in
      let none : refusal_in (seen_lists k lists) (heap.Unhook m s) ≡ None = refusal ∙ counted in
      let reply : answer_of_unhook (slot_at k.heap m s) (queue_in k m s) ≡ replies.Notice n q Own =
      ap (λ v. answer_of_unhook v (queue_in k m s)) held ∙ ap (answer_of_unhook (Some n)) registered in
      let left : unhooked_from k m s (slot_at k.heap m s) (queue_in k m s) ≡ holding (with_cleared k m s) n =
      ap (λ v. unhooked_from k m s v (queue_in k m s)) held ∙ ap (unhooked_from k m s (Some n)) registered in
      let now : j ≡ holding (with_cleared k m s) n =
      cut ∙ ap (λ (h : CycleHeap). marks.after_in_cycle h (heap.Plain (plain.Clear m s))) mint.2 ∙ simp clears refl
      ∙ clear_holding k m s n in (
        record {
          answer = ap (λ (o : ℕ). replies.Notice o q Own) mint.1 ∙ sym reply ∙ simp none refl;
          after =
              ap (λ (h : CycleHeap). seen_lists h lists) now
              ∙ seen_kept k (holding (with_cleared k m s) n) lists unhook_kept
              ∙ ap (with_mark (seen_lists k lists)) (sym left) ∙ simp none refl;
        },
        subst (λ (h : CycleHeap). AreRegistered h.heap.objects lists) (sym now)
            (registered_kept k (holding (with_cleared k m s) n) lists unhook_kept sound.registered),
        now,
      )
