-- What a look at a found reference leaves of a heap, its chains among it: one that is pending then goes last in one.
use Rattle.ref_clear.proofs.Common.{Worklist, ◌≡◌, ℕ, ◌<◌, true, false, refl, sym, ap, subst, ◌∙◌, arith, List, []}
use Rattle.ref_clear.proofs.Common.{◌∷◌, ◌++◌, length, get_or, set, Option, Some, None, inl, inr, ◌==◌, Bool, or_cases}
use Rattle.ref_clear.proofs.Common.{eqb-true, true≢false, false≢true, false_from_ne_true, unwrap_or, is_some}
use Rattle.ref_clear.proofs.Common.{refers_into, Ground, IsWellFormed, is_doomed, ground_of, Reference, get_or_default}
use Rattle.ref_clear.proofs.Common.{length-map, has, AreDistinct, Object, is_there, numbers, joined, list_at}
use Rattle.ref_clear.proofs.Common.{work_refusal, reference_at, registered_in, first_in, Clearing, CycleHeap}
use Rattle.ref_clear.proofs.Common.{with_found_taken, is_to_clear, cut_at, after_in, Chain, listed, linked_last_of}
use Rattle.ref_clear.proofs.Common.{lists_in, seen_heap, seen_lists, AreSoundLists, IsSoundHeap, is_tagged, rest_of}
use Rattle.ref_clear.proofs.Common.{answer_in}
use Rattle.std.proofs.lemmas.Bool.{ne_eqb}
use Rattle.ref_objects.specs.Grounds.{look_of}
use Rattle.ref_space.specs.declared.linked.Look.{Look}
use Rattle.ref_mark.specs.MarkViews.{found_look}
use Rattle.ref_mark.specs.Chains.{AreChains, chain_with, linked_last}
use Rattle.ref_clear.specs.ClearViews.{AreApart}
use Rattle.ref_mark.specs.CycleHeaps.{found_looked_at}
use Rattle.ref_mark.proofs.ChainLemmas.{first_look, none_told, ArePushed, pushes_one, chain_at, chain-linked, has-last}
use Rattle.ref_mark.proofs.ChainLemmas.{listed_within, list_at-lists_of, lists-same}
use Rattle.ref_base.proofs.Lookups.{is_there-has}
use Rattle.ref_mark.proofs.DistinctLists.{distinct_fit, AreDistinct-taken}
use Rattle.ref_mark.proofs.LinkLemmas.{link_at-cleared, is_tagged-cleared}
use Rattle.ref_mark.proofs.MarkerLemmas.{length-lists_of, length-joined}
use Rattle.ref_mark.proofs.Mutations.{referring_is_there}
use Rattle.ref_clear.proofs.LookAnswers.{first_is, none_is}
use Rattle.ref_clear.proofs.KeptPending.{waits_there}
use Rattle.ref_clear.proofs.PendingLists.{pending_numbers-seen}
use Rattle.ref_clear.proofs.PendingChains.{KeepsLinks, chains_stay, seen_still, sound_still, grown-has}
use Rattle.ref_clear.proofs.ChainedNotices.{less-has}
use Rattle.ref_base.specs.declared.heap_step.HeapStep.TheVariants as heap
use Rattle.ref_base.specs.declared.plain_step.PlainStep.TheVariants as plain
use Rattle.ref_clear.proofs.LookAnswers as lists
use Rattle.ref_base.specs.declared.reply.Reply.TheVariants as replies

-- a number, or none
some_is : (q : Option ℕ) → is_some q ≡ true → q ≡ Some (unwrap_or q 0)
some_is None some = absurd (false≢true some)
some_is (Some q) some = refl

not_some : (q : Option ℕ) → is_some q ≡ false → q ≡ None
not_some None none = refl
not_some (Some q) none = absurd (true≢false none)

module _ {k : CycleHeap} {chains : List Chain} {condemned : Worklist} (w : ℕ)
    (accepted : work_refusal k.heap k.phase Clearing w ≡ None) (sound : IsSoundHeap k chains condemned) where
  abbrev taken : CycleHeap
  taken = with_found_taken k w

  -- what the look leaves
  abbrev left : CycleHeap
  left = found_looked_at k w (list_at k.found w)

  left_by : {j : CycleHeap} (ns : List ℕ) → list_at k.found w ≡ ns → j ≡ left → j ≡ found_looked_at k w ns
  left_by ns is after = after ∙ ap (found_looked_at k w) is

  taken_apart : AreApart taken (lists_in k chains)
  taken_apart n within = sound.apart n (less-has k.found w (list_at k.found w) refl n within)

  taken_keeps : KeepsLinks k taken (joined (lists_in k chains))
  taken_keeps = record { same = λ n within there. (refl, there); apart = taken_apart }

  -- there is a chain for each worker
  pub look_within : w < length chains
  look_within =
      subst (λ count. w < count) (length-lists_of k.tags k.heap.config.cells chains)
      (lists.look_within w accepted sound.lists)

  -- it found nothing more
  pub sound_none : {j : CycleHeap} → None ≡ found_look k w → j ≡ left → IsSoundHeap j chains condemned
  sound_none {j} told after =
      let first = none_told (look_of (ground_of k)) (first_in (list_at k.found w)) told in
      subst (λ (i : CycleHeap). IsSoundHeap i chains condemned)
      (sym (left_by [] (none_is (list_at k.found w) first) after))
      (sound_still refl taken_keeps sound condemned refl (lists.sound_none w accepted sound.lists first refl))

  -- this is the look at the first that it found
  module _ {l : Look} (told : Some l ≡ found_look k w) where
    abbrev n : ℕ
    n = l.was.no

    first : first_in (list_at k.found w) ≡ Some n
    first = (first_look (ground_of k) (first_in (list_at k.found w)) l told).0

    is_look : l ≡ look_of (ground_of k) n
    is_look = (first_look (ground_of k) (first_in (list_at k.found w)) l told).1

    clears_by : {b : Bool} → l.is_cleared ≡ b → is_to_clear k n ≡ b
    clears_by is = grind arith

    read : l.was.reference ≡ reference_at k.heap n
    read = ap (λ (i : Look). i.was.reference) is_look

    left_first : {j : CycleHeap} → j ≡ left → j ≡ found_looked_at k w (n ∷ rest_of (list_at k.found w))
    left_first = left_by (n ∷ rest_of (list_at k.found w)) (first_is (list_at k.found w) n first)

    -- it is kept, or skipped
    sound_stays : {j : CycleHeap} → is_to_clear k n ≡ false → j ≡ left → IsSoundHeap j chains condemned
    sound_stays {j} stays after =
        subst (λ (i : CycleHeap). IsSoundHeap i chains condemned) (sym (left_first after ∙ simp stays refl))
        (sound_still refl taken_keeps sound condemned refl
        (lists.sound_passed w accepted sound.lists n first stays refl))

    pub sound_kept : {j : CycleHeap} → l.is_cleared ≡ false → j ≡ left → IsSoundHeap j chains condemned
    sound_kept spares = sound_stays (clears_by spares)

    pub sound_plain : {j : CycleHeap} → l.was.reference ≡ None → j ≡ left → IsSoundHeap j chains condemned
    sound_plain none = sound_stays (ap (refers_into (is_doomed k)) (sym read ∙ none))

    pub sound_skipped : {j : CycleHeap} {r : Reference} → l.was.reference ≡ Some r → is_some r.referent ≡ false
        → j ≡ left → IsSoundHeap j chains condemned
    sound_skipped {j} {r} is none = grind (arith, sound_stays)

    -- it is cleared
    abbrev cut : CycleHeap
    cut = cut_at taken n

    cut_keeps : KeepsLinks k cut (joined (lists_in k chains))
    cut_keeps = search (link_at-cleared, is_tagged-cleared, taken_apart)

    -- it isn't found any more
    new_found : has (joined cut.found) n ≡ false
    new_found = grind (arith, AreDistinct-taken)

    module _ (clears : l.is_cleared ≡ true) where
      goes : is_to_clear k n ≡ true
      goes = clears_by clears

      left_cut : {j : CycleHeap} → j ≡ left → j ≡ cut
      left_cut after = left_first after ∙ simp goes refl

      pub last_apart : {j : CycleHeap} {c : Chain} → c ≡ get_or chains w c → j ≡ left → (c.first == 0) ≡ false
          → has (joined j.found) c.last ≡ false
      last_apart {j} {c} its after full =
          ap (λ (i : CycleHeap). has (joined i.found) c.last) (left_cut after)
          ∙ false_from_ne_true (has (joined cut.found) c.last)
          (λ found.
          true≢false
          (sym
          (listed_within k.tags k.heap.config.cells chains w c.last c look_within its
          (has-last k.tags k.heap.config.cells c
          (chain_at k.tags k.heap.config.cells chains w c look_within its sound.linked) full))
          ∙ taken_apart c.last found))

      pub answers_cleared : replies.Cleared n ≡ answer_in (seen_heap k chains) (heap.Plain (plain.ClearNext w))
      answers_cleared = grind arith

      -- without a queue nothing comes of it
      no_queue : {r : Reference} → l.was.reference ≡ Some r → is_some r.queue ≡ false
          → registered_in (reference_at k.heap n) ≡ None
      no_queue {r} is none = ap registered_in (sym read ∙ is) ∙ not_some r.queue none

      pub seen_cut : {j : CycleHeap} {r : Reference} → l.was.reference ≡ Some r → is_some r.queue ≡ false → j ≡ left
          → seen_heap j chains ≡ after_in (seen_heap k chains) (heap.Plain (plain.ClearNext w))
      seen_cut is unregistered after =
          let none = no_queue is unregistered in
          ap (λ (i : CycleHeap). seen_heap i chains) (left_cut after) ∙ seen_still refl cut_keeps sound
          ∙ lists.seen_cut w accepted sound.lists n first goes none

      pub sound_cut : {j : CycleHeap} {r : Reference} → l.was.reference ≡ Some r → is_some r.queue ≡ false → j ≡ left
          → IsSoundHeap j chains condemned
      sound_cut is unregistered after =
          let none = no_queue is unregistered in
          subst (λ (i : CycleHeap). IsSoundHeap i chains condemned) (sym (left_cut after))
          (sound_still refl cut_keeps sound condemned refl (lists.sound_cut w accepted sound.lists n first goes none))

      -- with one it goes last in the worker's chain
      module _ {c : Chain} (its : c ≡ get_or chains w c) {r : Reference} (is : l.was.reference ≡ Some r)
          (some : is_some r.queue ≡ true) {g : Ground} (same : g ≡ ground_of k) (well : IsWellFormed g)
          (none_0 : is_tagged k.tags 0 ≡ false) where
        formed : IsWellFormed (ground_of k)
        formed = rw same at well

        abbrev q : ℕ
        q = unwrap_or r.queue 0

        registered : registered_in (reference_at k.heap n) ≡ Some q
        registered = ap registered_in (sym read ∙ is) ∙ some_is r.queue some

        abbrev own : List ℕ
        own = listed k.tags k.heap.config.cells c

        own_is : list_at (lists_in k chains) w ≡ own
        own_is = list_at-lists_of k.tags k.heap.config.cells chains w c look_within its

        own_read : own ≡ get_or (lists_in k chains) w own
        own_read =
            sym own_is
            ∙ get_or_default (lists_in k chains) w [] own (lists.look_within w accepted sound.lists)

        stay : lists_in cut chains ≡ lists_in k chains
        stay = chains_stay refl cut_keeps sound

        cut_linked : AreChains cut.tags k.heap.config.cells chains
        cut_linked = (lists-same k.tags cut.tags k.heap.config.cells chains sound.linked cut_keeps.same).1

        same_own : listed cut.tags k.heap.config.cells c ≡ own
        same_own = grind (arith, list_at-lists_of, look_within, stay, own_is)

        once : AreDistinct (joined (lists_in k chains))
        once = grind (arith, pending_numbers-seen)

        lacks : has (joined (lists_in k chains)) n ≡ false
        lacks = grind (arith, pending_numbers-seen)

        there : is_there k.heap.objects n ≡ true
        there = referring_is_there _ k.heap n goes

        numbered : (m : ℕ) → is_there k.heap.objects m ≡ true → has (numbers k.heap.objects) m ≡ true
        numbered m is = grind (arith, is_there-has)

        room : length (listed cut.tags k.heap.config.cells c) < k.heap.config.cells
        room =
            let fit = distinct_fit (n ∷ joined (lists_in k chains)) (numbers k.heap.objects) (lacks, once) all in
            let count = length-map k.heap.objects (λ (o : Object). o.no) in
            let less = length-joined (lists_in k chains) w in
            let size : length (listed cut.tags k.heap.config.cells c) ≡ length (list_at (lists_in k chains) w) =
            ap length (same_own ∙ sym own_is) in
            omega (arith, fit, count, less, size, formed.few)
          where
            all : (m : ℕ) → has (n ∷ joined (lists_in k chains)) m ≡ true → has (numbers k.heap.objects) m ≡ true
            all m within =
                elim (or_cases (n == m) (has (joined (lists_in k chains)) m) within) [
                  | inl same ↦ subst (λ i. has (numbers k.heap.objects) i ≡ true) (eqb-true n m same) (numbered n there)
                  | inr before ↦ numbered m (waits_there sound.lists m before)
                ]

        own_tagged : is_tagged k.tags n ≡ true
        own_tagged = ap (λ ns. has ns n) formed.tagged ∙ numbered n there

        pushed : ArePushed cut.tags k.heap.config.cells chains w c n
        pushed =
            pushes_one cut.tags k.heap.config.cells chains w c n look_within its cut_linked
            (subst (λ mss. AreDistinct (joined mss)) (sym stay) once)
            (record {
              some = ne_eqb n 0 (λ zero. true≢false (sym own_tagged ∙ ap (is_tagged k.tags) zero ∙ none_0));
              there = is_tagged-cleared k.tags n k.cycle n ∙ own_tagged;
              lacks = ap (λ mss. has (joined mss) n) stay ∙ lacks;
            }) room

        module _ {i j : CycleHeap} {d : Chain} (after : j ≡ left)
            (links : i ≡ record j { tags = linked_last j.tags c n }) (last : d ≡ chain_with c n) where
          abbrev linked : CycleHeap
          linked = record cut { tags = linked_last cut.tags c n }

          left_linked : i ≡ linked
          left_linked =
              links ∙ ap (λ (h : CycleHeap). record h { tags = linked_last h.tags c n }) (left_cut after)

          same_links : linked_last cut.tags c n ≡ linked_last_of cut.tags own n
          same_links = grind (arith, chain-linked, chain_at, look_within, cut_linked, same_own)

          linked_as_told : i ≡ record cut { tags = linked_last_of cut.tags own n }
          linked_as_told = left_linked ∙ ap (λ ts. record cut { tags = ts }) same_links

          left_lists : lists_in i (set chains w d) ≡ set (lists_in k chains) w (own ++ n ∷ [])
          left_lists = grind (arith, pushed, stay, own_is)

          pub seen_pended : seen_heap i (set chains w d)
              ≡ after_in (seen_heap k chains) (heap.Plain (plain.ClearNext w))
          seen_pended =
              ap (seen_lists i) left_lists
              ∙ lists.seen_pended w accepted sound.lists n first goes own_read q registered linked_as_told refl
              formed.tagged

          pub sound_pended : IsSoundHeap i (set chains w d) condemned
          sound_pended = record {
            linked = rw (left_linked, last) pushed.chains;
            apart = λ m found.
                ap (λ mss. has (joined mss) m) left_lists
                ∙ false_from_ne_true (has (joined (set (lists_in k chains) w (own ++ n ∷ []))) m)
                (λ stands. none_grown m (ap (λ (h : CycleHeap). has (joined h.found) m) (sym left_linked) ∙ found)
                stands);
            lists = subst (λ mss. AreSoundLists i mss condemned.stands) (sym left_lists)
                (lists.sound_pended w accepted sound.lists n first goes own_read q registered linked_as_told refl
                formed.tagged);
            fits = rw left_linked sound.fits;
          }
            where
              none_grown : (m : ℕ) → has (joined cut.found) m ≡ true
                  → has (joined (set (lists_in k chains) w (own ++ n ∷ []))) m ≡ true → ⊥
              none_grown m found stands =
                  elim
                  (grown-has (lists_in k chains) w n m
                  (subst (λ ns. has (joined (set (lists_in k chains) w (ns ++ n ∷ []))) m ≡ true) (sym own_is)
                  stands)) [
                    | inl same ↦
                        true≢false (sym (subst (λ o. has (joined cut.found) o ≡ true) (sym same) found) ∙ new_found)
                    | inr before ↦ true≢false (sym before ∙ taken_apart m found)
                  ]
