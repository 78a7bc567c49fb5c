-- What a hand and an unhook answer and leave of a heap, its chains among it.
use Rattle.ref_clear.proofs.Common.{Worklist, ◌≡◌, ℕ, ◌<◌, true, refl, sym, ap, subst, ◌∙◌, arith, List, [], ◌∷◌}
use Rattle.ref_clear.proofs.Common.{zero, length, get_or, set, Option, Some, None, suc, ◌==◌, option_map, IsSome}
use Rattle.ref_clear.proofs.Common.{or_right, true≢false, false_from_ne_true, get_or_default, has, joined, list_at}
use Rattle.ref_clear.proofs.Common.{rest_of, Pending, pending_at, pending_from, pending_in, Reply, Fault, Cycle, Own}
use Rattle.ref_clear.proofs.Common.{Reference, reference_at, registered_in, slot_at, has_slot, CycleHeap, with_cleared}
use Rattle.ref_clear.proofs.Common.{holding, mint_answer_in, after_mint_in, Chain, listed, lists_in, seen_heap}
use Rattle.ref_clear.proofs.Common.{seen_lists, IsSoundHeap, AreSoundLists, ClearHeap, AreRegistered, MarkerDoes}
use Rattle.ref_clear.proofs.Common.{listed_at, HeapDoes, Ground, ground_of, pending_by}
use Rattle.std.proofs.Common.{nat_lt, Bool, false, not}
use Rattle.std.proofs.lemmas.List.{append-nil}
use Rattle.ref_clear.proofs.Common.{pendings_in}
use Rattle.ref_clear.specs.ClearViews.{IsPendingChain, HandsNext, may_go, stays_behind}
use Rattle.ref_mark.specs.Chains.{chain_first, chain_without_first}
use Rattle.ref_space.specs.declared.linked.Linked.{Linked}
use Rattle.ref_objects.specs.Grounds.{is_spared, linked_in}
use Rattle.ref_base.proofs.HasLaws.{has-left, has-right, has-cases}
use Rattle.ref_mark.proofs.ChainLemmas.{first_linked, none_told, list_at-lists_of, chain_at, chain-first, takes_one}
use Rattle.ref_mark.proofs.MarkerLemmas.{length-lists_of}
use Rattle.ref_clear.proofs.KeptReferences.{config-cleared}
use Rattle.ref_clear.proofs.NoticeAnswers.{minted, mint_refused}
use Rattle.ref_clear.proofs.PendingLists.{worker_within, worker_has_list, first_as_seen, listed_registered}
use Rattle.ref_clear.proofs.PendingLists.{told_as_seen, none_past, has-list, pending_at-seen}
use Rattle.ref_clear.proofs.HandAnswers.{none_to_hand, handed as handed_lists, hand_refused as hand_refused_lists}
use Rattle.ref_clear.proofs.HandAnswers.{some_first}
use Rattle.ref_clear.proofs.UnhookAnswers.{unhook_cut as cut_lists, unhook_refused as refused_lists}
use Rattle.ref_clear.proofs.UnhookAnswers.{unhook_done as done_lists}
use Rattle.ref_clear.proofs.SoundHeaps.{sound_after}
use Rattle.ref_clear.proofs.PendingChains.{KeepsLinks, sound_still}
use Rattle.ref_clear.proofs.ChainedHeaps.{seen_chains}
use Rattle.ref_base.specs.declared.heap_step.HeapStep.TheVariants as heap
use Rattle.ref_base.specs.declared.plain_step.PlainStep.TheVariants as plain
use Rattle.ref_base.specs.declared.reply.Reply.TheVariants as replies
use Rattle.ref_mark.specs.MarkCalls as marks

-- what stands in the lists as one loses its first stood there
pub less-has : (lists : List (List ℕ)) (w : ℕ) (ns : List ℕ) → list_at lists w ≡ ns → (m : ℕ)
    → has (joined (set lists w (rest_of ns))) m ≡ true → has (joined lists) m ≡ true
less-has [] w ns is m within = within
less-has (ms ∷ lists) zero ns is m within = grind (arith, has-cases, has-left, has-right, rest-has)
  where
    rest-has : (ns : List ℕ) (m : ℕ) → has (rest_of ns) m ≡ true → has ns m ≡ true
    rest-has [] m within = within
    rest-has (n ∷ ns) m within = or_right (n == m) (has ns m) within
less-has (ms ∷ lists) (suc w) ns is m within =
    grind (arith, has-cases, has-left, has-right, less-has lists w ns is m)

-- ---- a chain that is read at a place

-- one that is found where they are lent
pub found_chain : {chains lent : List Chain} {c : Chain} (w : ℕ) → lent ≡ chains → nat_lt w (length lent) ≡ true
    → c ≡ get_or lent w c → (w < length chains) × (c ≡ get_or chains w c)
found_chain {chains} {lent} {c} w same within is = grind arith

module _ (k : CycleHeap) (chains : List Chain) (w place : ℕ) {c : Chain} (within : w < length chains)
    (read : c ≡ get_or chains w c) where
  inside : w < length (lists_in k chains)
  inside = let size = length-lists_of k.tags k.heap.config.cells chains in omega (arith, within, size)

  listed_read : listed k.tags k.heap.config.cells c ≡ get_or (lists_in k chains) w (listed k.tags k.heap.config.cells c)
  listed_read =
      sym (list_at-lists_of k.tags k.heap.config.cells chains w c within read)
      ∙ get_or_default (lists_in k chains) w [] (listed k.tags k.heap.config.cells c) inside

  -- what is told of the number that is read
  pub told_of : {found other : Option ℕ} {g : Ground} → g ≡ ground_of k
      → found ≡ listed_at (listed g.tags g.heap.config.cells c) place → found ≡ other
      → pending_from (pending_at (seen_heap k chains) w) place ≡ option_map (pending_in k.heap.objects k.tags) other
  told_of {found} {other} {g} objects is same = grind (arith, told_as_seen, inside, listed_read)

  pub registered_of : {condemned : Worklist} {found : Option ℕ} {g : Ground} (n : ℕ) → IsSoundHeap k chains condemned
      → g ≡ ground_of k → found ≡ listed_at (listed g.tags g.heap.config.cells c) place → found ≡ Some n
      → IsSome (registered_in (reference_at k.heap n))
  registered_of {condemned} {found} {g} n sound objects is same =
      listed_registered w sound.lists place n inside listed_read
      (is ∙ ap (λ (h : Ground). listed_at (listed h.tags h.heap.config.cells c) place) objects) same

-- of a worker that isn't there nothing is pending
pub none_behind : (k : CycleHeap) (chains : List Chain) (w place : ℕ) → (w < length chains → ⊥)
    → pending_from (pending_at (seen_heap k chains) w) place ≡ None
none_behind k chains w place past = grind (arith, none_past, length-lists_of)

-- ---- a worker's chain

module _ {k : CycleHeap} {chains : List Chain} {condemned : Worklist} (w : ℕ) (sound : IsSoundHeap k chains condemned)
    {now : ClearHeap} (seen : seen_heap k chains ≡ now) (named : w < now.mark.heap.config.workers) where
  within : w < k.heap.config.workers
  within = worker_within w sound.lists seen refl named

  pub worker_has_chain : w < length chains
  worker_has_chain =
      subst (λ count. w < count) (length-lists_of k.tags k.heap.config.cells chains)
      (worker_has_list w sound.lists within)

  module _ {c : Chain} (read : c ≡ get_or chains w c) {objects : Ground} (lent : objects ≡ ground_of k)
      {answer : Option Linked} (told : answer ≡ option_map (linked_in objects) (chain_first c)) where
    abbrev own : List ℕ
    own = listed k.tags k.heap.config.cells c

    own_is : list_at (lists_in k chains) w ≡ own
    own_is = list_at-lists_of k.tags k.heap.config.cells chains w c worker_has_chain read

    own_read : own ≡ get_or (lists_in k chains) w own
    own_read =
        sym own_is
        ∙ get_or_default (lists_in k chains) w [] own (worker_has_list w sound.lists within)

    first_at : chain_first c ≡ listed_at own 0
    first_at = search (chain-first, chain_at, worker_has_chain)

    -- where nothing is told, nothing is pending
    pub none_first : {with : Option Pending} → answer ≡ None
        → HandsNext (seen_heap k chains) w with replies.Nothing (seen_heap k chains)
    none_first none = record {
      hands = λ _.
          none_to_hand w sound.lists within
          (first_as_seen w sound.lists within own_read first_at
          (none_told (linked_in (ground_of k)) (chain_first c) (sym none ∙ rw lent at told)));
      stays = λ _. (refl, refl);
    }

    -- the first of it is told
    module _ {l : Linked} (some : answer ≡ Some l) where
      first_told : (chain_first c ≡ Some l.no) × (l ≡ linked_in (ground_of k) l.no)
      first_told = first_linked (ground_of k) (chain_first c) l (sym some ∙ rw lent at told)

      pub first_registered : IsSome (registered_in l.reference)
      first_registered =
          rw first_told.1
          (listed_registered w sound.lists 0 l.no (worker_has_list w sound.lists within) own_read first_at first_told.0)

      -- and pending
      module _ {p : Pending} (is : p ≡ pending_by l) where
        first : pending_from (pending_at (seen_heap k chains) w) 0 ≡ Some p
        first =
            first_as_seen w sound.lists within own_read first_at first_told.0
            ∙ ap (λ p. Some p) (sym (is ∙ ap pending_by first_told.1))

        -- it is handed on
        module _ {j : CycleHeap} {d : Chain} {n : ℕ} (answers : replies.Object n ≡ mint_answer_in k p.object)
            (after : j ≡ after_mint_in k p.object) (taken : d ≡ chain_without_first objects.tags c) where
          minted_now : j ≡ holding k p.object
          minted_now = (minted k p.object n answers after).2

          taken_now : d ≡ chain_without_first k.tags c
          taken_now = taken ∙ ap (λ (g : Ground). chain_without_first g.tags c) lent

          left_lists : lists_in k (set chains w d) ≡ set (lists_in k chains) w (rest_of own)
          left_lists = grind (arith, takes_one, worker_has_chain, own_is, taken_now)

          step : HeapDoes (seen_lists k (lists_in k chains)) (heap.Hand w) (replies.Notice n p.queue (Cycle p.cycle w))
              (seen_lists j (set (lists_in k chains) w (rest_of own)))
              × AreRegistered j.heap.objects (set (lists_in k chains) w (rest_of own))
          step = handed_lists w sound.lists within first answers after own_read refl

          left_in : lists_in j (set chains w d) ≡ set (lists_in k chains) w (rest_of own)
          left_in = ap (λ (i : CycleHeap). lists_in i (set chains w d)) minted_now ∙ left_lists

          pub handed : HeapDoes (seen_heap k chains) (heap.Hand w) (replies.Notice n p.queue (Cycle p.cycle w))
              (seen_heap j (set chains w d))
          handed = search (left_in, step)

          pub sound_handed : IsSoundHeap j (set chains w d) condemned
          sound_handed = record {
            linked = rw (minted_now, taken_now)
                (takes_one k.tags k.heap.config.cells chains w c worker_has_chain read sound.linked).1;
            apart = λ m found.
                ap (λ mss. has (joined mss) m) left_in
                ∙ false_from_ne_true (has (joined (set (lists_in k chains) w (rest_of own))) m)
                (λ stands.
                true≢false
                (sym (less-has (lists_in k chains) w own own_is m stands)
                ∙ sound.apart m (ap (λ (i : CycleHeap). has (joined i.found) m) (sym minted_now) ∙ found)));
            lists = subst (λ mss. AreSoundLists j mss condemned.stands) (sym left_in)
                (sound_after (heap.Hand w) refl sound.lists step.0.after step.1);
            fits = rw minted_now sound.fits;
          }

        -- and so it is where it goes with the one told, if one is; else nothing is done
        module _ (with : Option Pending) {goes : Bool} (answered : goes ≡ may_go with p) where
          stays_by : stays_behind with (pending_at (seen_heap k chains) w) ≡ not goes
          stays_by =
              ap (stays_behind with) (some_first (pending_at (seen_heap k chains) w) p first) ∙ ap not (sym answered)

          pub hands_next : {reply : Reply} {d : ClearHeap} → goes ≡ true
              → HeapDoes (seen_heap k chains) (heap.Hand w) reply d → HandsNext (seen_heap k chains) w with reply d
          hands_next may does = record {
            hands = λ _. does;
            stays = λ is. absurd (true≢false (sym is ∙ stays_by ∙ ap not may));
          }

          pub stays_next : goes ≡ false
              → HandsNext (seen_heap k chains) w with replies.Nothing (seen_heap k chains)
          stays_next not_so = record {
            hands = λ isn't. absurd (true≢false (sym (stays_by ∙ ap not not_so) ∙ isn't));
            stays = λ _. (refl, refl);
          }

        -- where the mint of its hold is refused nothing changes
        pub hand_refused : {j : CycleHeap} {fault : Fault} → replies.Refused fault ≡ mint_answer_in k p.object
            → j ≡ after_mint_in k p.object
            → HeapDoes (seen_heap k chains) (heap.Hand w) (replies.Refused fault) (seen_heap j chains)
            × IsSoundHeap j chains condemned
        hand_refused {j} {fault} answers after =
            let same : j ≡ k = (mint_refused k p.object fault answers after).1 in
            rw same ((hand_refused_lists w sound.lists within first answers (sym same ∙ after)).0, sound)

-- ---- a worker's chain by itself

module _ {k : CycleHeap} {chains : List Chain} {condemned : Worklist} (w : ℕ) (sound : IsSoundHeap k chains condemned)
    {now : ClearHeap} (seen : seen_heap k chains ≡ now) (named : w < now.mark.heap.config.workers) {c : Chain}
    (read : c ≡ get_or chains w c) where
  abbrev within_chains : w < length chains
  within_chains = worker_has_chain w sound seen named

  -- it is one of registered references
  pub pending_chain : IsPendingChain (ground_of k) c
  pending_chain = record {
    linked = chain_at k.tags k.heap.config.cells chains w c within_chains read sound.linked;
    registered = λ n within.
        sound.lists.registered n
        (has-list (lists_in k chains) w (listed k.tags k.heap.config.cells c) n
        (inside k chains w 0 within_chains read) (listed_read k chains w 0 within_chains read)
        (subst (λ (ns : List ℕ). has ns n ≡ true) (append-nil (listed k.tags k.heap.config.cells c)) within));
  }

  -- and what it lists is pending
  pub pending_read : pendings_in k.heap.objects k.tags (listed k.tags k.heap.config.cells c)
      ≡ pending_at (seen_heap k chains) w
  pending_read =
      pending_at-seen k (lists_in k chains) w (listed k.tags k.heap.config.cells c)
      (inside k chains w 0 within_chains read) (listed_read k chains w 0 within_chains read)

-- ---- an unhook

module _ {k : CycleHeap} {chains : List Chain} {condemned : Worklist} (sound : IsSoundHeap k chains condemned)
    (m s : ℕ) {n : ℕ} {r : Reference} (has : has_slot k.heap m s ≡ true) (held : slot_at k.heap m s ≡ Some n)
    (found : reference_at k.heap n ≡ Some r) where
  -- the cut alone
  pub unhook_cut : {j : CycleHeap} {reply : Reply} → r.queue ≡ None
      → MarkerDoes k (heap.Plain (plain.Clear m s)) reply j
      → HeapDoes (seen_heap k chains) (heap.Unhook m s) replies.Nothing (seen_heap j chains)
  unhook_cut {j} queue does =
      subst (λ (d : ClearHeap). HeapDoes (seen_heap k chains) (heap.Unhook m s) replies.Nothing d)
      (sym (seen_chains sound does refl refl))
      (cut_lists k (lists_in k chains) m s has held found queue sound.lists does)

  -- where the hold is refused, nothing changes
  pub unhook_refused : {q : ℕ} → r.queue ≡ Some q → {j : CycleHeap} {fault : Fault} → is_spared (ground_of k) n ≡ true
      → replies.Refused fault ≡ mint_answer_in k n → j ≡ after_mint_in k n
      → HeapDoes (seen_heap k chains) (heap.Unhook m s) (replies.Refused fault) (seen_heap j chains)
  unhook_refused queue {j} {fault} spared answer after =
      let same : j ≡ k = (mint_refused k n fault answer after).1 in
      rw same (refused_lists sound.lists m s has held found queue spared answer (sym same ∙ after))

  -- the hold and the cut
  module _ {q : ℕ} (queue : r.queue ≡ Some q) {i j : CycleHeap} {object : ℕ}
      (answer : replies.Object object ≡ mint_answer_in k n) (after : i ≡ after_mint_in k n)
      (cut : j ≡ marks.after_in_cycle i (heap.Plain (plain.Clear m s))) where
    unhook_step : HeapDoes (seen_lists k (lists_in k chains)) (heap.Unhook m s) (replies.Notice object q Own)
        (seen_lists j (lists_in k chains))
        × AreRegistered j.heap.objects (lists_in k chains) × (j ≡ holding (with_cleared k m s) n)
    unhook_step = done_lists sound.lists m s has held found queue answer after cut

    unhook_config : j.heap.config ≡ k.heap.config
    unhook_config = ap (λ (h : CycleHeap). h.heap.config) unhook_step.2 ∙ config-cleared k m s

    unhook_keeps : KeepsLinks k j (joined (lists_in k chains))
    unhook_keeps = grind (arith, unhook_step)

    pub unhook_done : HeapDoes (seen_heap k chains) (heap.Unhook m s) (replies.Notice object q Own) (seen_heap j chains)
    unhook_done = grind (arith, unhook_step)

    pub sound_unhooked : IsSoundHeap j chains condemned
    sound_unhooked =
        sound_still unhook_config unhook_keeps sound condemned refl
        (sound_after (heap.Unhook m s) refl sound.lists unhook_step.0.after unhook_step.1)
