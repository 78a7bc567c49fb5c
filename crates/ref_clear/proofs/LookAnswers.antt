-- What a look at a found reference leaves of a heap with lists.
use Rattle.ref_clear.proofs.Common.{◌≡◌, ℕ, ◌<◌, true, false, refl, sym, ap, subst, ◌∙◌, arith, List, [], ◌∷◌, ◌++◌}
use Rattle.ref_clear.proofs.Common.{length, map, get_or, set, Option, Some, None, inl, inr, ◌==◌, map-append, unwrap_or}
use Rattle.ref_clear.proofs.Common.{IsSome, is_there, reference_at, registered_in, Pending, list_at, work_refusal}
use Rattle.ref_clear.proofs.Common.{Clearing, CycleHeap, is_doomed, with_found_taken, first_in, rest_of, ClearHeap}
use Rattle.ref_clear.proofs.Common.{with_mark, pending_at, is_to_clear, cut_at, heap_pended, looked_from, after_in}
use Rattle.ref_clear.proofs.Common.{seen_lists, AreSoundLists, AreRegistered, has, joined, numbers, with_reference}
use Rattle.ref_clear.proofs.Common.{cleared, pending_in, pendings_in, cleared_in_at, linked_last_of}
use Rattle.std.proofs.lemmas.List.{set-get_or}
use Rattle.ref_clear.specs.ClearHeaps.{heap_looked_at}
use Rattle.ref_objects.proofs.TagLemmas.{cleared_in_at-other, cleared_in_at-own}
use Rattle.ref_base.proofs.HasLaws.{has-cases, has-single}
use Rattle.ref_base.proofs.Lookups.{is_there-has}
use Rattle.ref_mark.proofs.Mutations.{referring_is_there}
use Rattle.ref_clear.proofs.TakenLists.{numbers_in}
use Rattle.ref_clear.proofs.KeptPending.{AreKept, waits_there, seen_kept, registered_kept, lists_kept, told_same}
use Rattle.ref_clear.proofs.KeptPending.{pendings_in-same}
use Rattle.ref_clear.proofs.KeptReferences.{stays-changed, cleared-kept}
use Rattle.ref_clear.proofs.PendingLists.{length-lists_of, lists_of-set, pending_at-seen, pending_numbers-seen}
use Rattle.ref_clear.proofs.PendingLists.{has-list, has-replaced, numbers_in-pendings}
use Rattle.ref_mark.proofs.KeptParts.{linked-cycles}
use Rattle.ref_clear.proofs.SoundHeaps.{sound_after}
use Rattle.ref_base.specs.declared.heap_step.HeapStep.TheVariants as heap
use Rattle.ref_base.specs.declared.plain_step.PlainStep.TheVariants as plain

-- ---- the first of a list

pub first_is : (ns : List ℕ) (n : ℕ) → first_in ns ≡ Some n → ns ≡ n ∷ rest_of ns
first_is [] n first = absurd (let wrong : None ≡ Some n = first in cc)
first_is (m ∷ ms) n first = let is : Some m ≡ Some n = first in let same : m ≡ n = cc in ap (λ i. i ∷ ms) same

pub none_is : (ns : List ℕ) → first_in ns ≡ None → ns ≡ []
none_is [] none = refl
none_is (n ∷ ns) none = absurd (let wrong : Some n ≡ None = none in cc)

-- ---- what is left

-- where a worker may look at what it found
module _ {k : CycleHeap} {lists : List (List ℕ)} {condemned : List ℕ} (w : ℕ)
    (accepted : work_refusal k.heap k.phase Clearing w ≡ None) (sound : AreSoundLists k lists condemned) where
  abbrev c : ClearHeap
  c = seen_lists k lists

  after_by : (ns : List ℕ) (d : ClearHeap) → list_at k.found w ≡ ns → looked_from c w ns ≡ d
      → d ≡ after_in c (heap.Plain (plain.ClearNext w))
  after_by ns d is looked = cc

  registered_taken : {j : CycleHeap} → j ≡ with_found_taken k w → AreRegistered j.heap.objects lists
  registered_taken after =
      subst (λ (i : CycleHeap). AreRegistered i.heap.objects lists) (sym after) sound.registered

  -- it found nothing more
  pub sound_none : {j : CycleHeap} → first_in (list_at k.found w) ≡ None → j ≡ with_found_taken k w
      → AreSoundLists j lists condemned
  sound_none {j} first after = grind (arith, set-get_or)

  -- there is a list for each worker
  pub look_within : w < length lists
  look_within = grind (arith, length-lists_of)

  -- this is the first that it found
  module _ (n : ℕ) (first : first_in (list_at k.found w) ≡ Some n) where
    after_look : (d : ClearHeap) → heap_looked_at (with_mark c (with_found_taken k w)) w n ≡ d
        → d ≡ after_in c (heap.Plain (plain.ClearNext w))
    after_look d looked =
        let ns : List ℕ = list_at k.found w in after_by (n ∷ rest_of ns) d (first_is ns n first) looked

    -- it is kept, or skipped
    pub sound_passed : {j : CycleHeap} → is_to_clear k n ≡ false → j ≡ with_found_taken k w
        → AreSoundLists j lists condemned
    sound_passed {j} stays after =
        sound_after (heap.Plain (plain.ClearNext w)) refl sound
        (ap (λ (i : CycleHeap). seen_lists i lists) after
        ∙ after_look (with_mark c (with_found_taken k w)) (simp stays refl))
        (registered_taken after)

    -- it is cleared
    module _ (goes : is_to_clear k n ≡ true) where
      abbrev cut : CycleHeap
      cut = cut_at (with_found_taken k w) n

      after_cut : (queue : Option ℕ) → registered_in (reference_at k.heap n) ≡ queue
          → heap_pended (with_mark c cut) w n queue ≡ after_in c (heap.Plain (plain.ClearNext w))
      after_cut queue is =
          after_look (heap_pended (with_mark c cut) w n queue) (simp goes (ap (heap_pended (with_mark c cut) w n) is))

      -- it isn't pending
      apart : (m : ℕ) → has (joined lists) m ≡ true → (n == m) ≡ false
      apart m within = grind (arith, pending_numbers-seen)

      there : is_there k.heap.objects n ≡ true
      there = referring_is_there (is_doomed k) k.heap n goes

      -- each reference has its queue still
      queue_still : (m : ℕ) → is_there k.heap.objects m ≡ true
          → registered_in (reference_at cut.heap m) ≡ registered_in (reference_at k.heap m)
      queue_still m is =
          (stays-changed k.heap (Some n) (with_reference cleared) (λ o. refl) (λ o. cleared-kept o.reference) m is).1

      -- so what is pending is seen as before
      cut_kept : AreKept k cut lists
      cut_kept m within =
          (queue_still m (waits_there sound m within), cleared_in_at-other k.tags n m k.cycle (apart m within))

      -- without a queue nothing comes of it
      pub seen_cut : registered_in (reference_at k.heap n) ≡ None
          → seen_lists cut lists ≡ after_in c (heap.Plain (plain.ClearNext w))
      seen_cut none = seen_kept k cut lists cut_kept ∙ after_cut None none

      pub sound_cut : registered_in (reference_at k.heap n) ≡ None → AreSoundLists cut lists condemned
      sound_cut none =
          sound_after (heap.Plain (plain.ClearNext w)) refl sound (seen_cut none)
          (registered_kept k cut lists cut_kept sound.registered)

      -- with one it goes last in the worker's list
      module _ {l : List ℕ} (is : l ≡ get_or lists w l) where
        -- the links lead to it then
        abbrev linked : CycleHeap
        linked = record cut { tags = linked_last_of cut.tags l n }

        same_list : numbers_in (pending_at c w) ≡ l
        same_list =
            ap numbers_in (sym (pending_at-seen k lists w l look_within is))
            ∙ numbers_in-pendings k.heap.objects k.tags l

        linked_kept : AreKept k linked lists
        linked_kept m within =
            ((cut_kept m within).0, linked-cycles cut.tags l n m ∙ (cut_kept m within).1)

        module _ {j : CycleHeap} {m : List ℕ} (q : ℕ) (registered : registered_in (reference_at k.heap n) ≡ Some q)
            (after : j ≡ linked) (pushed : m ≡ l ++ n ∷ [])
            (tagged : map (λ i. i.no) k.tags ≡ numbers k.heap.objects) where
          -- what is told of it then
          abbrev pended : Pending
          pended = record { object = n; queue = q; cycle = k.cycle }

          queue_told : registered_in (reference_at cut.heap n) ≡ Some q
          queue_told = queue_still n there ∙ registered

          cycle_told : cleared_in_at linked.tags n ≡ k.cycle
          cycle_told = grind (arith, cleared_in_at-own, is_there-has, linked-cycles)

          own_told : pending_in cut.heap.objects linked.tags n ≡ pended
          own_told = λ i. record { object = n; queue = unwrap_or (queue_told i) 0; cycle = cycle_told i }

          -- and of all in the list
          list_told : pendings_in cut.heap.objects linked.tags m ≡ pending_at c w ++ pended ∷ []
          list_told =
              ap (λ (i : List ℕ). pendings_in cut.heap.objects linked.tags i) pushed
              ∙ map-append (pending_in cut.heap.objects linked.tags) l (n ∷ [])
              ∙ ap (λ p. pendings_in cut.heap.objects linked.tags l ++ p ∷ []) own_told
              ∙ ap (λ ps. ps ++ pended ∷ [])
              (pendings_in-same k.heap.objects cut.heap.objects k.tags linked.tags l
              (λ i stands. told_same k linked i (linked_kept i (has-list lists w l i look_within is stands)))
              ∙ pending_at-seen k lists w l look_within is)

          pub seen_pended : seen_lists j (set lists w m) ≡ after_in c (heap.Plain (plain.ClearNext w))
          seen_pended =
              ap (λ (i : CycleHeap). seen_lists i (set lists w m)) after
              ∙ ap (λ (pss : List (List Pending)). record { mark = linked; pending = pss })
              (lists_of-set cut.heap.objects linked.tags lists w m
              ∙ ap (λ (pss : List (List Pending)). set pss w (pendings_in cut.heap.objects linked.tags m))
              (lists_kept k linked lists linked_kept)
              ∙ ap (set c.pending w) list_told)
              ∙ ap (λ ns. record {
                mark = record cut { tags = linked_last_of cut.tags ns n };
                pending = set c.pending w (pending_at c w ++ pended ∷ []);
              }) (sym same_list)
              ∙ after_cut (Some q) registered

          all_registered : AreRegistered cut.heap.objects (set lists w m)
          all_registered i within =
              elim
              (has-replaced (λ o. n ≡ o) lists w l m is
              (λ o own.
              elim
              (has-cases l (n ∷ []) o (subst (λ (h : List ℕ). has h o ≡ true) pushed own)) [
                | inl before ↦ inr before
                | inr last ↦ inl (has-single n o last)
              ]) i within) [
                | inl same ↦
                    subst (λ o. IsSome (registered_in (reference_at cut.heap o))) same
                    (subst IsSome (sym queue_told) refl)
                | inr before ↦ registered_kept k cut lists cut_kept sound.registered i before
              ]

          pub sound_pended : AreSoundLists j (set lists w m) condemned
          sound_pended =
              sound_after (heap.Plain (plain.ClearNext w)) refl sound seen_pended
              (subst (λ (i : CycleHeap). AreRegistered i.heap.objects (set lists w m)) (sym after) all_registered)
