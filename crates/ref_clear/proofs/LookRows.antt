-- The row in which a worker looks at the first reference that it found, and clears it where its referent is doomed.
use Rattle.ref_clear.proofs.Common.{◌≡◌, ℕ, ◌<◌, true, false, refl, sym, ap, subst, ◌∙◌, arith, List, [], ◌∷◌, length}
use Rattle.ref_clear.proofs.Common.{Some, None, is_some, ◌⊎◌, inl, inr, slice_set, or_left, has, Object, object_at}
use Rattle.ref_clear.proofs.Common.{present, refers_into, Heap, reference_in, reference_at, registered_in, with_changed}
use Rattle.ref_clear.proofs.Common.{changed_reference, with_reference, cleared, pending_numbers, State, joined, is_in}
use Rattle.ref_clear.proofs.Common.{HeapAccepts, list_at, reference_of, referent_of, Clearing, Sweeping, CycleHeap}
use Rattle.ref_clear.proofs.Common.{is_white, is_past_mark, is_doomed, doomed, with_found_taken, rest_of, unsaid}
use Rattle.ref_clear.proofs.Common.{shown_heap, ClearHeap, pending_at, is_to_clear, cut_at, looked_from, refusal_in}
use Rattle.ref_clear.proofs.Common.{HeapStands}
use Rattle.std.proofs.Common.{if◌then◌else◌}
use Rattle.ref_base.specs.CollectorRows.{ClearsNext, looked_at as state_answer, looked as state_looked}
use Rattle.ref_clear.specs.ClearCalls.{answer_of_look}
use Rattle.ref_base.specs.Replay.{pended as world_pended}
use Rattle.ref_objects.specs.Grounds.{with_cleared_tag}
use Rattle.ref_base.proofs.Forgetting.{reference_of-but}
use Rattle.ref_base.proofs.Lookups.{lookup-changed}
use Rattle.ref_base.proofs.NewClears.{refers_into-same}
use Rattle.ref_base.proofs.Reshaping.{queue-cleared}
use Rattle.ref_base.proofs.ShownObjects.{shown_reference, shown-cleared}
use Rattle.ref_mark.proofs.DoomedLists.{has-doomed}
use Rattle.ref_mark.proofs.Passed.{work_passed, is_clearing}
use Rattle.ref_mark.proofs.ShownHeaps.{shown_heap-changed_in, cut-shown}
use Rattle.ref_mark.proofs.ShownReads.{reference_of-shown}
use Rattle.ref_clear.proofs.FoundFacts.{black_parts}
use Rattle.ref_mark.proofs.MarkerLemmas.{past_refers}
use Rattle.ref_clear.proofs.PendingRoom.{cleared_refers_to_none, to_clear_is_not_pending}
use Rattle.ref_clear.proofs.TakenLists.{numbers_in, pended_tags, pended_lists, length-pended, has-pended}
use Rattle.ref_clear.proofs.TakenLists.{AreDistinct-pended, world-pended, heap-pended}
use Rattle.ref_mark.proofs.DistinctLists.{has-first_taken}
use Rattle.ref_clear.proofs.LookedHeaps.{changed_here, changed_to_itself, leads-cleared, MayLook, looked_heap}
use Rattle.ref_clear.proofs.LookedHeaps.{state_with, looked_stands}
use Rattle.ref_clear.proofs.KeptReferences.{cleared-none}
use Rattle.ref_base.specs.declared.heap_step.HeapStep.TheVariants as heap
use Rattle.ref_base.specs.declared.plain_step.PlainStep.TheVariants as plain
use Rattle.ref_base.specs.declared.reply.Reply.TheVariants as replies

module _ (c : ClearHeap) (a : State) (w n : ℕ) (rest : List ℕ) (stands : HeapStands c a) (within : w < length c.pending)
    (clearing : is_in c.mark.phase Clearing ≡ true) (is : list_at c.mark.found w ≡ n ∷ rest) where
  -- the mark has ended
  past_mark : is_past_mark c.mark.phase ≡ true
  past_mark = or_left (is_in c.mark.phase Clearing) (is_in c.mark.phase Sweeping) clearing

  -- the reference was found
  found_first : has (joined c.mark.found) n ≡ true
  found_first = has-first_taken c.mark.found w n rest is

  -- so it isn't white
  not_white : is_white c.mark n ≡ false
  not_white = (black_parts c.mark n ((stands.mark.clearing clearing).black n found_first)).1

  -- the state has it among the cleared where it refers to the doomed
  same_clear : has a.cleared n ≡ is_to_clear c.mark n
  same_clear = (stands.mark.clearing clearing).cleared n found_first ∙ sym (past_refers c.mark n past_mark)

  -- as mutators read it, it is cleared then
  reads : reference_at a.world.heap n ≡ shown_reference (doomed c.mark) (reference_at c.mark.heap n)
  reads =
      let quiet : is_in c.mark.phase Sweeping ≡ false =
      ap (λ p. is_in p Sweeping) (is_clearing c.mark.phase clearing) in
      let said : has (unsaid c.mark) n ≡ false = simp quiet refl in
      sym (reference_of-but (unsaid c.mark) a.world.heap (Some n) said)
      ∙ ap (λ (h : Heap). reference_of h (Some n)) stands.mark.heap
      ∙ reference_of-but (unsaid c.mark) (shown_heap c.mark) (Some n) said
      ∙ reference_of-shown c.mark (Some n) not_white

  same_refers : refers_into (has (doomed c.mark)) (reference_at c.mark.heap n) ≡ is_to_clear c.mark n
  same_refers =
      refers_into-same (has (doomed c.mark)) (is_doomed c.mark) (has-doomed c.mark) (reference_at c.mark.heap n)

  -- what the row asks for
  abbrev HasLookRow : Type 0
  HasLookRow =
      (b : State) × ClearsNext a w (n ∷ rest) (answer_of_look c.mark (n ∷ rest)) b
      × HeapStands (looked_from c w (n ∷ rest)) b

  -- which is so where the state and the heap that it leaves and the answers are these
  row_of : (d : ClearHeap) (b : State) → looked_from c w (n ∷ rest) ≡ d → state_looked a w n rest ≡ b
      → state_answer a w n ≡ answer_of_look c.mark (n ∷ rest) → b.world.phase ≡ a.world.phase → HeapStands d b
      → HasLookRow
  row_of d b left after answer phase standing = grind arith

  -- it is kept, or skipped
  passed_row : is_to_clear c.mark n ≡ false → HasLookRow
  passed_row stays =
      let k = c.mark in
      let same = changed_to_itself k.heap.objects n in
      let j : CycleHeap = looked_heap k w n rest (λ o. o) k.tags in
      let b : State = state_with a c.pending (slice_set a.found w rest) in
      let clear : has a.cleared n ≡ false = same_clear ∙ stays in
      let unmet : refers_into (has (doomed k)) (reference_at k.heap n) ≡ false = same_refers ∙ stays in
      let read : reference_at a.world.heap n ≡ reference_at k.heap n = reads ∙ simp unmet refl in
      let looks : (o : Object) → object_at k.heap.objects n ≡ Some o → MayLook k o o = λ o found. record {
        leads = λ allow i target. target;
        off =
            ap (λ p. refers_into (is_white k) (reference_in p)) (sym found) ∙ sym (past_refers k n past_mark) ∙ stays;
      } in
      let left : looked_from c w (n ∷ rest) ≡ record { mark = j; pending = c.pending } =
      simp stays
      (ap (λ ns. record c { mark = record k { found = slice_set k.found w (rest_of ns) } }) is
      ∙ ap (λ os. record c {
        mark = record k { heap = record k.heap { objects = os }; found = slice_set k.found w rest };
      }) (sym same)) in
      let after : state_looked a w n rest ≡ b =
      simp clear (ap (λ pss. state_with a pss (slice_set a.found w rest)) stands.pending) in
      let answer : state_answer a w n ≡ answer_of_look k (n ∷ rest) =
      simp (clear, stays) (ap (λ r. if is_some (referent_of r) then replies.Kept n else replies.Skipped n) read) in
      row_of (record { mark = j; pending = c.pending }) b left after answer refl
      (record {
        mark = looked_stands k a w n rest (λ o. o) k.tags c.pending stands.mark clearing is (λ o. refl) looks
            (ap (λ os. shown_heap (record k { heap = record k.heap { objects = os } })) same)
            (λ m pending. inr (subst (λ pss. has (pending_numbers pss) m ≡ true) (sym stands.pending) pending));
        pending = refl;
        waiting = record {
          workers = stands.waiting.workers;
          once = stands.waiting.once;
          cleared = subst (λ os. (m : ℕ) → has (pending_numbers c.pending) m ≡ true
              → referent_of (reference_in (object_at os m)) ≡ None) (sym same) stands.waiting.cleared;
        };
      })

  -- it is cleared
  cleared_row : is_to_clear c.mark n ≡ true → HasLookRow
  cleared_row goes =
      let k = c.mark in
      let f : Object → Object = with_reference cleared in
      let cut_tags = with_cleared_tag k.tags n k.cycle in
      let queue = registered_in (reference_at k.heap n) in
      let tags = pended_tags cut_tags (numbers_in (pending_at c w)) n queue in
      let j : CycleHeap = looked_heap k w n rest f tags in
      let pss = pended_lists c.pending w n queue k.cycle in
      let b : State = state_with a pss (slice_set a.found w rest) in
      let clear : has a.cleared n ≡ true = same_clear ∙ goes in
      let met : refers_into (has (doomed k)) (reference_at k.heap n) ≡ true = same_refers ∙ goes in
      let read : reference_at a.world.heap n ≡ changed_reference cleared (reference_at k.heap n) =
      reads ∙ simp met refl in
      let registered : registered_in (reference_at a.world.heap n) ≡ queue =
      ap registered_in read ∙ queue-cleared (reference_at k.heap n) in
      let looks : (o : Object) → object_at k.heap.objects n ≡ Some o → MayLook k o (f o) = λ o found. record {
        leads = λ allow i target. leads-cleared allow (present o.fields) o.reference i target;
        off =
            cleared_refers_to_none (is_white k) (changed_reference cleared o.reference) (cleared-none o.reference);
      } in
      let left : looked_from c w (n ∷ rest) ≡ record { mark = j; pending = pss } =
      simp goes
      (heap-pended (record c { mark = cut_at (with_found_taken k w) n }) w n queue
      ∙ ap (λ ns. record {
        mark = record k { heap = with_changed k.heap n f; tags = tags; found = slice_set k.found w (rest_of ns) };
        pending = pss;
      }) is) in
      let after : state_looked a w n rest ≡ b =
      simp clear
      (ap (λ q. record a { world = world_pended a.world w n q; found = slice_set a.found w rest }) registered
      ∙ ap (λ v. record a { world = v; found = slice_set a.found w rest }) (world-pended a.world w n queue)
      ∙ ap (λ lists. state_with a (pended_lists lists w n queue a.world.cycle) (slice_set a.found w rest))
      stands.pending
      ∙ ap (λ i. state_with a (pended_lists c.pending w n queue i) (slice_set a.found w rest)) stands.mark.cycle) in
      let answer : state_answer a w n ≡ answer_of_look k (n ∷ rest) = simp (clear, goes) refl in
      let pends : (m : ℕ) → has (pending_numbers pss) m ≡ true
      → (n ≡ m) ⊎ (has (pending_numbers c.pending) m ≡ true) = has-pended c.pending w within n queue k.cycle in
      row_of (record { mark = j; pending = pss }) b left after answer refl
      (record {
        mark = looked_stands k a w n rest f tags pss stands.mark clearing is (λ o. refl) looks
            (shown_heap-changed_in k (Some n) f (λ o. refl) shown-cleared ∙ cut-shown k (Some n) not_white goes)
            (subst (λ lists. (m : ℕ) → has (pending_numbers pss) m ≡ true
            → (n ≡ m) ⊎ (has (pending_numbers lists) m ≡ true)) (sym stands.pending) pends);
        pending = refl;
        waiting = record {
          workers = length-pended c.pending w n queue k.cycle ∙ stands.waiting.workers;
          once =
              AreDistinct-pended c.pending w within n queue k.cycle stands.waiting.once
              (to_clear_is_not_pending c a n stands goes);
          cleared = λ m pending.
              elim (pends m pending) [
                | inl own ↦
                    subst (λ i. referent_of (reference_at j.heap i) ≡ None) own
                    (changed_here (λ o. referent_of (reference_in o) ≡ None) k.heap.objects n f (λ o. refl) refl
                    (λ o found. cleared-none o.reference))
                | inr before ↦
                    lookup-changed (λ o p. referent_of (reference_in o) ≡ None → referent_of (reference_in p) ≡ None)
                    k.heap.objects n f (λ o. refl) (λ o none. none)
                    (λ o found none. cleared-none o.reference) m (stands.waiting.cleared m before)
              ];
        };
      })

-- a worker looks at the first of what it found, if anything
looked_row : (c : ClearHeap) (a : State) (w : ℕ) (found : List ℕ) → HeapStands c a → w < length c.pending
    → is_in c.mark.phase Clearing ≡ true → list_at c.mark.found w ≡ found
    → (b : State) × ClearsNext a w found (answer_of_look c.mark found) b × HeapStands (looked_from c w found) b
looked_row c a w [] stands within clearing is = grind arith
looked_row c a w (n ∷ rest) stands within clearing is =
    grind (arith, cleared_row c a w n rest stands within clearing is, passed_row c a w n rest stands within clearing is)

pub look_row : (c : ClearHeap) (a : State) (w : ℕ) → HeapStands c a
    → refusal_in c (heap.Plain (plain.ClearNext w)) ≡ None
    → (b : State) × HeapAccepts a (heap.Plain (plain.ClearNext w)) (answer_of_look c.mark (list_at c.mark.found w)) b
    × HeapStands (looked_from c w (list_at c.mark.found w)) b
look_row c a w stands accepted =
    let k = c.mark in
    let passed = work_passed k Clearing w accepted in
    let workers : length c.pending ≡ k.heap.config.workers = stands.waiting.workers in
    let row = looked_row c a w (list_at k.found w) stands (omega (arith, passed.0, workers)) passed.1 refl in (
      row.0,
      subst (λ lists. ClearsNext a w (list_at lists w) (answer_of_look k (list_at k.found w)) row.0)
          (sym (stands.mark.clearing passed.1).same) row.1,
      row.2,
    )
