-- The ends of the clearing and of the sweep: nothing found is left, and then nothing doomed.
use Rattle.ref_clear.proofs.Common.{arith, ◌≡◌, ℕ, refl, sym, ap, ◌∙◌, [], None, false≢true, false_from_ne_true, has}
use Rattle.ref_clear.proofs.Common.{refers_into, reference_at, graph_of, State, joined, HeapAccepts, with_world}
use Rattle.ref_clear.proofs.Common.{heap_but, Clearing, Sweeping, unmarked, CycleHeap, is_white, cycle_ended}
use Rattle.ref_clear.proofs.Common.{cycle_in_phase}
use Rattle.ref_clear.proofs.Common.{MarkStands, FactsBut, shown_heap, ClearHeap, with_mark, refusal_in, HeapStands}
use Rattle.ref_clear.proofs.Common.{referent_of, sweep_begun}
use Rattle.ref_base.specs.CollectorRows.{sweep_ended}
use Rattle.ref_base.specs.Replay.{with_phase as world_with_phase}
use Rattle.ref_base.proofs.Forgetting.{heap_but-none}
use Rattle.ref_objects.proofs.SparedLemmas.{has-unmarked, unreferring_at}
use Rattle.ref_mark.proofs.SweepBegins.{sweep_begun_stands}
use Rattle.ref_base.specs.declared.heap_step.HeapStep.TheVariants as heap
use Rattle.ref_base.specs.declared.plain_step.PlainStep.TheVariants as plain
use Rattle.ref_base.specs.declared.reply.Reply.TheVariants as replies

-- ---- what a step that isn't refused has passed

-- ---- the clearing ends

phase_ended_stands : (k : CycleHeap) (a : State) → MarkStands (cycle_in_phase k Clearing) a → joined k.found ≡ []
    → MarkStands (cycle_in_phase k Sweeping) (with_world a (world_with_phase a.world Sweeping))
phase_ended_stands k a stands none =
    let before = cycle_in_phase k Clearing in
    let facts : FactsBut before (graph_of a.world).roots [] = stands.facts refl in
    let cleared = stands.clearing refl in
    let same : a.world.heap ≡ shown_heap before =
    sym (heap_but-none a.world.heap) ∙ stands.heap ∙ heap_but-none (shown_heap before) in
    record {
      heap = ap (heap_but (unmarked k.heap.objects k.marked)) same;
      next = stands.next;
      policy = stands.policy;
      cycle = stands.cycle;
      phase = refl;
      doomed = stands.doomed;
      born = stands.born;
      orderly = stands.orderly;
      scanners = stands.scanners;
      finders = stands.finders;
      there = record { named = stands.there.named; led = λ m n due target. stands.there.led m n refl target };
      healed = λ n unhealed. let was = stands.healed n unhealed in (was.0, refl, was.2);
      moved = stands.moved;
      facts = λ begun. record { rooted = facts.rooted; closed = facts.closed };
      marking = λ now. absurd (false≢true now);
      clearing = λ now. absurd (false≢true now);
      sweeping = λ now. record {
        no_grey = cleared.no_grey;
        none_left = λ n black.
            false_from_ne_true (refers_into (is_white k) (reference_at k.heap n))
            (λ refers.
            false≢true (sym (ap (λ ns. has ns n) none) ∙ cleared.all_found n black refers));
      };
    }

-- and what the doomed refer to is forgotten
clear_ended_stands : (k : CycleHeap) (a : State) → MarkStands (cycle_in_phase k Clearing) a → joined k.found ≡ []
    → MarkStands (sweep_begun k) (with_world a (world_with_phase a.world Sweeping))
clear_ended_stands k a stands none =
    sweep_begun_stands k (with_world a (world_with_phase a.world Sweeping)) (phase_ended_stands k a stands none)

-- what is pending has no referent still
still_cleared : (k : CycleHeap) (n : ℕ) → referent_of (reference_at k.heap n) ≡ None
    → referent_of (reference_at (sweep_begun k).heap n) ≡ None
still_cleared k n cleared = unreferring_at (unmarked k.heap.objects k.marked) k.heap.objects n cleared

pub end_clear_row : (c : ClearHeap) (a : State) → HeapStands c a → refusal_in c (heap.Plain plain.EndClear) ≡ None
    → (b : State) × HeapAccepts a (heap.Plain plain.EndClear) replies.Done b
    × HeapStands (with_mark c (sweep_begun c.mark)) b
end_clear_row c a stands none = grind (arith, clear_ended_stands, still_cleared)

-- ---- the sweep ends

sweep_ended_stands : (k : CycleHeap) (a : State) → MarkStands k a → k.phase ≡ Sweeping
    → unmarked k.heap.objects k.marked ≡ []
    → MarkStands (cycle_ended k) (sweep_ended a)
sweep_ended_stands k a stands sweeping none = grind (arith, has-unmarked)

pub end_sweep_row : (c : ClearHeap) (a : State) → HeapStands c a → refusal_in c (heap.Plain plain.EndSweep) ≡ None
    → (b : State) × HeapAccepts a (heap.Plain plain.EndSweep) replies.Done b
    × HeapStands (with_mark c (cycle_ended c.mark)) b
end_sweep_row c a stands none =
    let sweeping : c.mark.phase ≡ Sweeping = grind arith in
    let swept : unmarked c.mark.heap.objects c.mark.marked ≡ [] = grind arith in
    let mark = sweep_ended_stands c.mark a stands.mark sweeping swept in
    (sweep_ended a, grind arith, assumption (stands, mark))
