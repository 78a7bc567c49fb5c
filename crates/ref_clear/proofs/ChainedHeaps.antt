-- What holds of a heap, its chains among it, goes on holding by the steps of marking and as phases end.
use Rattle.ref_clear.proofs.Common.{arith, ◌≡◌, ℕ, true, false, not, refl, sym, ap, subst, ◌∙◌, List, [], Option, Some}
use Rattle.ref_clear.proofs.Common.{None, joined, NamedStep, Reply, is_in, is_empty, work_refusal, Fault, Urgency}
use Rattle.ref_clear.proofs.Common.{CycleHeap, Clearing, Sweeping, shaded_all, cycle_ended, doomed, ClearHeap}
use Rattle.ref_clear.proofs.Common.{with_mark, answer_in, after_in, swept_some, Chain, lists_in, seen_heap, seen_lists}
use Rattle.ref_clear.proofs.Common.{IsSoundHeap, MaySweep, MarkerDoes, answer_in_cycle, after_in_cycle, Heap, ◌≤◌}
use Rattle.ref_clear.proofs.Common.{length, unmarked, Worklist, emptied_list, with_more, unless_refused, cycle_begun}
use Rattle.ref_clear.proofs.Common.{HeapDoes, IsWellFormed, sweep_begun, ground_of, has}
use Rattle.ref_objects.specs.Grounds.{IsClosed}
use Rattle.ref_clear.proofs.KeptReferences.{begun-heap}
use Rattle.ref_clear.proofs.KeptRows.{goes_on_sweeping}
use Rattle.ref_clear.proofs.PendingLists.{pending_numbers-seen}
use Rattle.ref_clear.proofs.SoundHeaps.{config_after}
use Rattle.ref_clear.proofs.MarkedHeaps.{seen_marked, does_marked as does_listed, sound_marked as sound_listed}
use Rattle.ref_clear.proofs.BeginAnswers.{refused_by, left, does_begun as begun_lists, sound_begun as sound_begun_lists}
use Rattle.ref_clear.proofs.SoundEnds.{sound_clear_ended as clear_ended, sound_sweep_ended as sweep_ended}
use Rattle.ref_clear.proofs.SoundEnds.{sound_swept as sound_swept_lists, seen_swept as seen_swept_lists}
use Rattle.ref_clear.proofs.SoundEnds.{may_free as may_free_lists, links_swept, seen_clear_ended}
use Rattle.std.proofs.lemmas.Bool.{not-false}
use Rattle.ref_mark.proofs.HealedMarks.{swept_healed}
use Rattle.ref_mark.proofs.SweepBegins.{closed_clearing}
use Rattle.ref_clear.proofs.PendingChains.{KeepsLinks, AreCleared, keeps_parts, marks_keep, shading_keeps, chains_stay}
use Rattle.ref_clear.proofs.PendingChains.{seen_still, sound_still}
use Rattle.ref_base.specs.declared.heap_step.HeapStep.TheVariants as heap
use Rattle.ref_base.specs.declared.plain_step.PlainStep.TheVariants as plain
use Rattle.ref_base.specs.declared.reply.Reply.TheVariants as replies

begin_config : (k : CycleHeap) (now : ℕ) (how : Urgency) (refused : Option Fault)
    → (unless_refused refused (λ fault. k) (cycle_begun k now how)).heap.config ≡ k.heap.config
begin_config k now how None = ap (λ (h : Heap). h.config) (begun-heap k now how [])
begin_config k now how (Some fault) = refl

module _ {k : CycleHeap} {chains : List Chain} {condemned : Worklist} (sound : IsSoundHeap k chains condemned) where
  -- nothing pending has a referent, or is found
  pub none_found : AreCleared (joined (lists_in k chains)) k
  none_found = grind (arith, pending_numbers-seen)

  -- ---- a step of marking

  module _ {j : CycleHeap} {step : NamedStep} {reply : Reply} (does : MarkerDoes k step reply j)
      (own : goes_on_sweeping step ≡ true)
      (same : with_mark (seen_heap k chains) (after_in_cycle k step) ≡ after_in (seen_heap k chains) step) where
    marked_keeps : KeepsLinks k j (joined (lists_in k chains))
    marked_keeps =
        subst (λ (i : CycleHeap). KeepsLinks k i (joined (lists_in k chains))) (sym does.after)
        (marks_keep (joined (lists_in k chains)) k step none_found)

    marked_config : j.heap.config ≡ k.heap.config
    marked_config = config_after (lists_in k chains) step own sound.lists (seen_marked sound.lists does ∙ same)

    pub seen_chains : seen_heap j chains ≡ seen_lists j (lists_in k chains)
    seen_chains = seen_still marked_config marked_keeps sound

    pub sound_marked : IsSoundHeap j chains condemned
    sound_marked = sound_still marked_config marked_keeps sound condemned refl (sound_listed sound.lists does own same)

    pub does_marked : {c : ClearHeap} → answer_in_cycle k step ≡ answer_in (seen_heap k chains) step
        → seen_heap k chains ≡ c → HeapDoes c step reply (seen_heap j chains)
    does_marked {c} told view =
        subst (λ (d : ClearHeap). HeapDoes c step reply d) (sym (seen_still marked_config marked_keeps sound))
        (does_listed sound.lists does told same view)

  -- ---- a begin

  module _ {j : CycleHeap} {now : ℕ} {how : Urgency} where
    -- where the marker refuses it, nothing changes
    module _ {fault : Fault} (does : MarkerDoes k (heap.Plain (plain.Begin now how)) (replies.Refused fault) j) where
      pub does_refused : {d : ClearHeap} → seen_heap k chains ≡ d
          → HeapDoes d (heap.Plain (plain.Begin now how)) (replies.Refused fault) (seen_heap j chains)
      does_refused view = search (does_marked, refused_by)

      pub sound_refused : IsSoundHeap j chains condemned
      sound_refused = search (sound_marked, refused_by)

    -- and else the pending references are shaded
    module _ {n : ℕ} {i : CycleHeap} (does : MarkerDoes k (heap.Plain (plain.Begin now how)) (replies.Cycle n) j)
        (shades : i ≡ shaded_all j (joined (lists_in j chains))) where
      config : j.heap.config ≡ k.heap.config
      config = grind (arith, begin_config)

      keeps : KeepsLinks k j (joined (lists_in k chains))
      keeps =
          subst (λ (h : CycleHeap). KeepsLinks k h (joined (lists_in k chains))) (sym does.after)
          (marks_keep (joined (lists_in k chains)) k (heap.Plain (plain.Begin now how)) none_found)

      begun_keeps : KeepsLinks k i (joined (lists_in k chains))
      begun_keeps =
          subst (λ (h : CycleHeap). KeepsLinks k h (joined (lists_in k chains))) (sym shades)
          (shading_keeps k j (joined (lists_in k chains)) (joined (lists_in j chains)) keeps)

      begun_config : i.heap.config ≡ k.heap.config
      begun_config =
          config_after (lists_in k chains) (heap.Plain (plain.Begin now how)) refl sound.lists
          (left sound.lists does shades (chains_stay config keeps sound))

      pub does_begun : {d : ClearHeap} → seen_heap k chains ≡ d
          → HeapDoes d (heap.Plain (plain.Begin now how)) (replies.Cycle n) (seen_heap i chains)
      does_begun {d} view =
          subst (λ (e : ClearHeap). HeapDoes d (heap.Plain (plain.Begin now how)) (replies.Cycle n) e)
          (sym (seen_still begun_config begun_keeps sound))
          (begun_lists sound.lists does shades (chains_stay config keeps sound) view)

      pub sound_begun : IsSoundHeap i chains condemned
      sound_begun = search (sound_still, begun_config, begun_keeps, sound_begun_lists, chains_stay, config, keeps)

  -- ---- the ends of phases

  pub sound_clear_ended : {j : CycleHeap} {listed : Worklist} → is_in k.phase Clearing ≡ true
      → not (is_empty (joined k.found)) ≡ false → j ≡ sweep_begun k
      → listed ≡ with_more (emptied_list condemned) (unmarked k.heap.objects k.marked) → IsSoundHeap j chains listed
  sound_clear_ended {j} {listed} clearing looked after lists =
      rw (after, lists)
      (sound_still refl
      (keeps_parts k (sweep_begun k) (joined (lists_in k chains)) refl refl sound.apart) sound
      (with_more (emptied_list condemned) (unmarked k.heap.objects k.marked)) refl
      (clear_ended clearing looked refl sound.lists))

  -- and the list has room for all that there is
  pub room_to_list : IsWellFormed (ground_of k) → length k.heap.objects ≤ condemned.room
  room_to_list formed = omega (arith, formed.few, sound.fits)

  pub does_clear_ended : {j : CycleHeap} → is_in k.phase Clearing ≡ true → not (is_empty (joined k.found)) ≡ false
      → j ≡ sweep_begun k → HeapDoes (seen_heap k chains) (heap.Plain plain.EndClear) replies.Done (seen_heap j chains)
  does_clear_ended {j} clearing looked after = grind (arith, seen_clear_ended)

  -- and nothing of what isn't marked is named then by what is
  pub closed_clear_ended : is_in k.phase Clearing ≡ true → not (is_empty (joined k.found)) ≡ false
      → IsWellFormed (ground_of k) → IsClosed k.heap (has k.marked)
  closed_clear_ended clearing looked formed = grind (arith, closed_clearing)

  pub sound_sweep_ended : {j : CycleHeap} → is_in k.phase Sweeping ≡ true → not (is_empty (doomed k)) ≡ false
      → j ≡ cycle_ended k → IsSoundHeap j chains condemned
  sound_sweep_ended {j} sweeping swept after =
      subst (λ (i : CycleHeap). IsSoundHeap i chains condemned) (sym after)
      (sound_still refl
      (keeps_parts k (cycle_ended k) (joined (lists_in k chains)) refl refl sound.apart) sound condemned refl
      (sweep_ended sweeping swept refl sound.lists))

  -- each object is healed then
  pub healed_sweep_ended : is_in k.phase Sweeping ≡ true → not (is_empty (doomed k)) ≡ false → k.space.unhealed ≡ []
  healed_sweep_ended sweeping swept =
      swept_healed k sound.lists.stands.0 sound.lists.stands.1.mark sweeping (not-false (is_empty (doomed k)) swept)

  -- ---- a sweep

  module _ (w : ℕ) (none : work_refusal k.heap k.phase Sweeping w ≡ None) where
    pub may_free : MaySweep k condemned.stands
    may_free = may_free_lists w none sound.lists

    swept_keeps : KeepsLinks k (swept_some k) (joined (lists_in k chains))
    swept_keeps = search links_swept

    pub sound_swept : {j : CycleHeap} {left : Worklist} → j ≡ swept_some k → MaySweep j left.stands
        → left.room ≡ condemned.room → IsSoundHeap j chains left
    sound_swept {j} {left} after may room =
        subst (λ (i : CycleHeap). IsSoundHeap i chains left) (sym after)
        (sound_still refl swept_keeps sound left room
        (sound_swept_lists w none refl (subst (λ (i : CycleHeap). MaySweep i left.stands) after may) sound.lists))

    pub seen_swept : {j : CycleHeap} → j ≡ swept_some k
        → seen_heap j chains ≡ after_in (seen_heap k chains) (heap.Plain (plain.Sweep w))
    seen_swept {j} after =
        ap (λ (i : CycleHeap). seen_heap i chains) after ∙ seen_still refl swept_keeps sound
        ∙ seen_swept_lists w none refl sound.lists
