-- What the code of a hand answers and leaves.
use Rattle.ref_clear.proofs.Common.{arith, ◌≡◌, ℕ, ◌<◌, ◌==◌, true, refl, sym, ap, subst, ◌∙◌, List, [], ◌∷◌, set}
use Rattle.ref_clear.proofs.Common.{get_or, Some, None, inl, inr, or_right, has, Pending, pending_numbers, Cycle, Fault}
use Rattle.ref_clear.proofs.Common.{mint_refusal, CycleHeap, mint_answer_in, after_mint_in, ground_of, pending_at}
use Rattle.ref_clear.proofs.Common.{holding, handed_from, refusal_in, pending_lists_of, pendings_in}
use Rattle.ref_clear.proofs.Common.{seen_lists, AreRegistered, AreSoundLists, pending_from, Object, rest_of, HeapDoes}
use Rattle.ref_clear.proofs.Common.{Tag, false}
use Rattle.std.proofs.lemmas.Bool.{lt-ltb}
use Rattle.ref_base.specs.Refusals.{is_worker, hand_refusal}
use Rattle.ref_base.specs.CollectorRows.{one_handed}
use Rattle.ref_clear.specs.ClearViews.{first_pending, stays_behind}
use Rattle.ref_base.proofs.HasLaws.{has-first, has-right}
use Rattle.ref_clear.proofs.HandRows.{pending_numbers-rest}
use Rattle.ref_clear.proofs.NoticeAnswers.{mint_of_pending, minted}
use Rattle.ref_clear.proofs.PendingLists.{lists_of-set, stands_as_seen, has-replaced}
use Rattle.ref_base.specs.declared.heap_step.HeapStep.TheVariants as heap
use Rattle.ref_base.specs.declared.reply.Reply.TheVariants as replies

abbrev pub rest_pending : List Pending → List Pending
rest_pending [] = []
rest_pending (p ∷ ps) = ps

-- what is told of the rest is the rest
pendings_in-rest : (os : List Object) (ts : List Tag) (ns : List ℕ)
    → pendings_in os ts (rest_of ns) ≡ rest_pending (pendings_in os ts ns)
pendings_in-rest os ts [] = refl
pendings_in-rest os ts (n ∷ ns) = refl

has-rest : (ns : List ℕ) (n : ℕ) → has (rest_of ns) n ≡ true → has ns n ≡ true
has-rest [] n within = within
has-rest (m ∷ ns) n within = or_right (m == n) (has ns n) within

pub some_first : (ps : List Pending) (p : Pending) → first_pending ps ≡ Some p → ps ≡ p ∷ rest_pending ps
some_first [] p some = absurd (let wrong : None ≡ Some p = some in cc)
some_first (q ∷ qs) p some =
    let same : q ≡ p = let e : Some q ≡ Some p = some in cc in ap (λ (r : Pending). r ∷ qs) same

-- where none is told, no first stays behind
pub none_stays : (ps : List Pending) → stays_behind None ps ≡ false
none_stays [] = refl
none_stays (p ∷ ps) = refl

module _ {k : CycleHeap} {lists : List (List ℕ)} {condemned : List ℕ} (w : ℕ) (sound : AreSoundLists k lists condemned)
    (within : w < k.heap.config.workers) where
  there : is_worker k.heap w ≡ true
  there = lt-ltb w k.heap.config.workers within

  -- nothing is pending
  pub none_to_hand : pending_from (pending_at (seen_lists k lists) w) 0 ≡ None
      → HeapDoes (seen_lists k lists) (heap.Hand w) replies.Nothing (seen_lists k lists)
  none_to_hand none = grind arith

  -- with a first that is pending, the mint of its hold decides
  module _ {p : Pending} (first : pending_from (pending_at (seen_lists k lists) w) 0 ≡ Some p) where
    are : pending_at (seen_lists k lists) w ≡ p ∷ rest_pending (pending_at (seen_lists k lists) w)
    are = some_first (pending_at (seen_lists k lists) w) p first

    abbrev pss : List (List Pending)
    pss = pending_lists_of k.heap.objects k.tags lists

    waits : has (pending_numbers pss) p.object ≡ true
    waits =
        let parts = pending_numbers-rest pss w (p ∷ []) (rest_pending (pending_at (seen_lists k lists) w)) are in
        subst (λ (ns : List ℕ). has ns p.object ≡ true) (sym parts.2)
        (has-right parts.0 (p.object ∷ parts.1) p.object (has-first p.object parts.1))

    refusal : refusal_in (seen_lists k lists) (heap.Hand w) ≡ mint_refusal (ground_of k) p.object
    refusal =
        let own : refusal_in (seen_lists k lists) (heap.Hand w) ≡ hand_refusal (pending_at (seen_lists k lists) w)
        k.heap =
        simp there refl in
        own ∙ ap (λ (ps : List Pending). hand_refusal ps k.heap) are
        ∙ sym (mint_of_pending (seen_lists k lists) sound.stands.0 p.object sound.stands.1 waits)

    pub hand_refused : {j : CycleHeap} {fault : Fault} → replies.Refused fault ≡ mint_answer_in k p.object
        → j ≡ after_mint_in k p.object
        → HeapDoes (seen_lists k lists) (heap.Hand w) (replies.Refused fault) (seen_lists j lists)
        × AreRegistered j.heap.objects lists
    hand_refused {j} {fault} answer after = grind (arith, refusal)

    pub handed : {j : CycleHeap} {l m : List ℕ} {n : ℕ} → replies.Object n ≡ mint_answer_in k p.object
        → j ≡ after_mint_in k p.object → l ≡ get_or lists w l → m ≡ rest_of l
        → HeapDoes (seen_lists k lists) (heap.Hand w) (replies.Notice n p.queue (Cycle p.cycle w))
        (seen_lists j (set lists w m))
        × AreRegistered j.heap.objects (set lists w m)
    handed {j} {l} {m} {n} answer after read taken =
        let mint = minted k p.object n answer after in
        let is : refusal_in (seen_lists k lists) (heap.Hand w) ≡ None = refusal ∙ mint.0 in
        let rest : pendings_in k.heap.objects k.tags m ≡ rest_pending (pending_at (seen_lists k lists) w) =
        ap (λ (i : List ℕ). pendings_in k.heap.objects k.tags i) taken
        ∙ pendings_in-rest k.heap.objects k.tags l
        ∙ ap rest_pending (stands_as_seen w sound within read) in
        let reply : one_handed w (pending_at (seen_lists k lists) w) ≡ replies.Notice p.object p.queue
        (Cycle p.cycle w) =
        ap (one_handed w) are in
        let left = ap (handed_from (seen_lists k lists) w) are in
        let now =
        lists_of-set k.heap.objects k.tags lists w m ∙ ap (λ (ps : List Pending). set pss w ps) rest in (
          record {
            answer = ap (λ i. replies.Notice i p.queue (Cycle p.cycle w)) mint.1 ∙ sym reply ∙ simp is refl;
            after =
                ap (λ (i : CycleHeap). seen_lists i (set lists w m)) mint.2
                ∙ ap (λ (qss : List (List Pending)). record { mark = holding k p.object; pending = qss }) now
                ∙ sym left ∙ simp is refl;
          },
          subst (λ (i : CycleHeap). AreRegistered i.heap.objects (set lists w m)) (sym mint.2) (λ i stands.
              elim
              (has-replaced (λ n. ⊥) lists w l m read
              (λ n own. inr (has-rest l n (subst (λ (i : List ℕ). has i n ≡ true) taken own))) i
              stands) [
                | inl none ↦ absurd none
                | inr before ↦ sound.registered i before
              ]),
        )
