-- What holds of a heap goes on holding as its clearing ends, by a sweep, and as the sweep ends.
use Rattle.ref_clear.proofs.Common.{◌≡◌, ℕ, Bool, true, false, not, refl, sym, ap, subst, ◌∙◌, arith, List, None, take}
use Rattle.ref_clear.proofs.Common.{joined, unless, is_in, is_empty, work_refusal, Fault, WrongPhase, Clearing}
use Rattle.ref_clear.proofs.Common.{Sweeping, CycleHeap, doomed, cycle_ended, unless_refused, ClearHeap, with_mark}
use Rattle.ref_clear.proofs.Common.{swept_some, refusal_in, has, reference_in, registered_in, after_in, AreRegistered}
use Rattle.ref_clear.proofs.Common.{HeapStands, seen_lists, AreSoundLists, MaySweep, forgotten, Object, unmarked}
use Rattle.ref_clear.proofs.Common.{sweep_begun, is_white, ◌&&◌, is_some}
use Rattle.ref_objects.proofs.SparedLemmas.{has-unmarked}
use Rattle.std.proofs.lemmas.Bool.{not-false}
use Rattle.ref_base.specs.declared.fault.Fault.TheVariants.{SweepLeft}
use Rattle.ref_base.proofs.Forgetting.{forgotten-shape}
use Rattle.ref_base.proofs.Reshaping.{at-reshaped}
use Rattle.ref_mark.proofs.Passed.{work_passed}
use Rattle.ref_clear.proofs.EndRows.{end_clear_row}
use Rattle.ref_clear.proofs.SweepRows.{sweep_row, may_sweep}
use Rattle.ref_mark.proofs.DoomedLists.{has-doomed}
use Rattle.ref_clear.proofs.SoundHeaps.{sound_after}
use Rattle.ref_clear.proofs.PendingFacts.{pending_is_not_doomed}
use Rattle.ref_clear.proofs.PendingLists.{pending_numbers-seen}
use Rattle.ref_clear.proofs.GoneObjects.{has-take, object_at-left, cleared_in_at-left, link_at-left, is_tagged-left}
use Rattle.ref_clear.proofs.GoneObjects.{rising-unmarked}
use Rattle.ref_mark.proofs.ChainLemmas.{IsSame}
use Rattle.ref_clear.proofs.KeptPending.{AreKept, seen_kept, registered_kept}
use Rattle.ref_base.specs.declared.heap_step.HeapStep.TheVariants as heap
use Rattle.ref_base.specs.declared.plain_step.PlainStep.TheVariants as plain

-- where both tests hold nothing is refused
both_hold : (first second : Bool) (early late : Fault) → first ≡ true → second ≡ true
    → unless first early (unless second late None) ≡ None
both_hold first second early late holds too = simp (holds, too) refl

-- clearing may end where nothing found is left
pub may_end_clear : (k : CycleHeap) (lists : List (List ℕ)) → is_in k.phase Clearing ≡ true
    → not (is_empty (joined k.found)) ≡ false → refusal_in (seen_lists k lists) (heap.Plain plain.EndClear) ≡ None
may_end_clear k lists clearing looked = search (both_hold, not-false)

-- what a sweep that begins forgets leaves what is pending as it was
kept_forgotten : (k : CycleHeap) (lists : List (List ℕ)) → AreKept k (sweep_begun k) lists
kept_forgotten k lists n within = (
  at-reshaped (λ o. forgotten (unmarked k.heap.objects k.marked) o) (forgotten-shape (unmarked k.heap.objects k.marked))
      (λ o. registered_in (reference_in o)) k.heap.objects n
      (λ o. queue_forgotten (unmarked k.heap.objects k.marked) o),
  refl,
)
  where
    queue_forgotten : (d : List ℕ) (o : Object)
        → registered_in (forgotten d o).reference ≡ registered_in o.reference
    queue_forgotten d o = (forgotten-shape d).queue o

-- what is white as a sweep begins was white before
white_before : (k : CycleHeap) (n : ℕ) → is_white (sweep_begun k) n ≡ is_white k n
white_before k n =
    ap (λ there. there && not (has k.marked n))
    (at-reshaped (λ o. forgotten (unmarked k.heap.objects k.marked) o)
    (forgotten-shape (unmarked k.heap.objects k.marked)) (λ o. is_some o) k.heap.objects n (λ o. refl))

-- the clearing ends: what isn't marked is listed
pub sound_clear_ended : {j k : CycleHeap} {lists : List (List ℕ)} {condemned : List ℕ} → is_in k.phase Clearing ≡ true
    → not (is_empty (joined k.found)) ≡ false → j ≡ sweep_begun k → AreSoundLists k lists condemned
    → AreSoundLists j lists (unmarked k.heap.objects k.marked)
sound_clear_ended {j} {k} {lists} {condemned} clearing looked after sound =
    let listed = unmarked k.heap.objects k.marked in
    let none = may_end_clear k lists clearing looked in
    let row = end_clear_row (seen_lists k lists) sound.stands.0 sound.stands.1 none in
    let kept = kept_forgotten k lists in
    subst (λ (i : CycleHeap). AreSoundLists i lists listed) (sym after)
    (record {
      registered = registered_kept k (sweep_begun k) lists kept sound.registered;
      stands = (
        row.0,
        subst (λ (d : ClearHeap). HeapStands d row.0) (sym (seen_kept k (sweep_begun k) lists kept)) row.2,
      );
      listed = λ now. record {
        rising = rising-unmarked k.heap.objects k.marked sound.stands.1.mark.orderly.rising;
        all = λ n white. has-unmarked k.heap.objects k.marked n ∙ sym (white_before k n) ∙ white;
      };
    })

-- and what is seen then is what that step leaves
pub seen_clear_ended : {j : CycleHeap} (k : CycleHeap) (lists : List (List ℕ)) → is_in k.phase Clearing ≡ true
    → not (is_empty (joined k.found)) ≡ false → j ≡ sweep_begun k
    → seen_lists j lists ≡ after_in (seen_lists k lists) (heap.Plain plain.EndClear)
seen_clear_ended {j} k lists clearing looked after = grind (arith, seen_kept, kept_forgotten)

-- the sweep ends
pub sound_sweep_ended : {j k : CycleHeap} {lists : List (List ℕ)} {condemned : List ℕ} → is_in k.phase Sweeping ≡ true
    → not (is_empty (doomed k)) ≡ false → j ≡ cycle_ended k → AreSoundLists k lists condemned
    → AreSoundLists j lists condemned
sound_sweep_ended {j} {k} {lists} {condemned} sweeping swept after sound =
    let c : ClearHeap = seen_lists k lists in
    let none : refusal_in c (heap.Plain plain.EndSweep) ≡ None =
    both_hold (is_in k.phase Sweeping) (is_empty (doomed k)) WrongPhase SweepLeft sweeping
    (not-false (is_empty (doomed k)) swept) in
    sound_after (heap.Plain plain.EndSweep) refl sound
    (ap (λ (i : CycleHeap). seen_lists i lists) after
    ∙ sym (ap (λ refused. unless_refused refused (λ fault. c) (with_mark c (cycle_ended k))) none))
    (subst (λ (i : CycleHeap). AreRegistered i.heap.objects lists) (sym after) sound.registered)

-- a sweep: what is doomed is held by nobody, and what is left of it stands in the list
pub may_free : {k : CycleHeap} {lists : List (List ℕ)} {condemned : List ℕ} (w : ℕ)
    → work_refusal k.heap k.phase Sweeping w ≡ None → AreSoundLists k lists condemned → MaySweep k condemned
may_free {k} {lists} {condemned} w none sound =
    let sweeping : is_in k.phase Sweeping ≡ true = (work_passed k Sweeping w none).1 in
    may_sweep (seen_lists k lists) sound.stands.0 condemned sound.stands.1 sweeping (sound.listed sweeping)

-- nothing pending is freed by it
kept_swept : {k : CycleHeap} {lists : List (List ℕ)} {condemned : List ℕ} (w : ℕ)
    → work_refusal k.heap k.phase Sweeping w ≡ None → AreSoundLists k lists condemned → AreKept k (swept_some k) lists
kept_swept {k} {lists} w none sound n within =
    let waits = ap (λ ns. has ns n) (pending_numbers-seen k.heap.objects k.tags lists) ∙ within in
    let stays : has (take 64 (doomed k)) n ≡ false =
    has-take 64 (doomed k) n
    (has-doomed k n ∙ pending_is_not_doomed (seen_lists k lists) sound.stands.0 n sound.stands.1 waits) in (
      ap (λ o. registered_in (reference_in o)) (object_at-left (take 64 (doomed k)) k.heap.objects n stays),
      cleared_in_at-left (take 64 (doomed k)) k.tags n stays,
    )

-- and no link of what is pending
pub links_swept : {k : CycleHeap} {lists : List (List ℕ)} {condemned : List ℕ} (w : ℕ)
    → work_refusal k.heap k.phase Sweeping w ≡ None → AreSoundLists k lists condemned
    → IsSame k.tags (swept_some k).tags (joined lists)
links_swept {k} {lists} w none sound n within tagged =
    let waits = ap (λ ns. has ns n) (pending_numbers-seen k.heap.objects k.tags lists) ∙ within in
    let stays : has (take 64 (doomed k)) n ≡ false =
    has-take 64 (doomed k) n
    (has-doomed k n ∙ pending_is_not_doomed (seen_lists k lists) sound.stands.0 n sound.stands.1 waits) in
    (link_at-left (take 64 (doomed k)) k.tags n stays, is_tagged-left (take 64 (doomed k)) k.tags n stays ∙ tagged)

pub sound_swept : {j k : CycleHeap} {lists : List (List ℕ)} {condemned left : List ℕ} (w : ℕ)
    → work_refusal k.heap k.phase Sweeping w ≡ None → j ≡ swept_some k → MaySweep j left
    → AreSoundLists k lists condemned → AreSoundLists j lists left
sound_swept {j} {k} {lists} {condemned} {left} w none after may sound =
    let row = sweep_row (seen_lists k lists) sound.stands.0 w sound.stands.1 none in
    let may_go_on : MaySweep (swept_some k) left = subst (λ (i : CycleHeap). MaySweep i left) after may in
    let kept = kept_swept w none sound in
    subst (λ (i : CycleHeap). AreSoundLists i lists left) (sym after)
    (record {
      registered = registered_kept k (swept_some k) lists kept sound.registered;
      stands = (
        row.0,
        subst (λ (d : ClearHeap). HeapStands d row.0) (sym (seen_kept k (swept_some k) lists kept)) row.2,
      );
      listed = λ now. may_go_on.listed;
    })

-- what is seen then is what the sweep leaves
pub seen_swept : {j k : CycleHeap} {lists : List (List ℕ)} {condemned : List ℕ} (w : ℕ)
    → work_refusal k.heap k.phase Sweeping w ≡ None → j ≡ swept_some k → AreSoundLists k lists condemned
    → seen_lists j lists ≡ after_in (seen_lists k lists) (heap.Plain (plain.Sweep w))
seen_swept {j} {k} {lists} {condemned} w none after sound = grind (arith, seen_kept, kept_swept w none sound)
