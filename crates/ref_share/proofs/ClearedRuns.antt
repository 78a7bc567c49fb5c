-- The history of a heap: what a mark's end clears reads as cleared from then on, and no get of it answers an object.
use Rattle.ref_share.proofs.Common.{◌≡◌, ℕ, true, List, Some, None, doomed_at, referent_of, new_clears, reference_at}
use Rattle.ref_share.proofs.Common.{has, Config, Leads, told_reply, State, IsHeapTurn, HeapEntry, IsHeapRun}
use Rattle.ref_share.proofs.Common.{heap_replayed, World}
use Rattle.ref_base.specs.Heaps.{slot_at}
use Rattle.ref_base.proofs.ClearedOnwards.{StaysCleared, turn_cleared, end_clears, cleared_at, no_get}
use Rattle.ref_base.proofs.OldNames.{rising_objects, old_objects}
use Rattle.ref_share.proofs.HeapReplays.{run_known}
use Rattle.ref_base.proofs.RunLaws.{holds_after}
use Rattle.ref_share.proofs.HeapRuns.{IsCall, as_turn}
use Rattle.ref_base.specs.declared.heap_step.HeapStep.TheVariants as heap
use Rattle.ref_base.specs.declared.plain_step.PlainStep.TheVariants as plain
use Rattle.ref_base.specs.declared.reply.Reply.TheVariants as told
use Rattle.ref_world.specs.declared.heap_machine.HeapReply.TheVariants as replies

-- what a mark's end clears reads as cleared from then on
pub stays_cleared : (config : Config) (number count : ℕ) (front : List HeapEntry) (a b : State)
    (calls : List HeapEntry) (c : State) (n : ℕ) → IsHeapRun config number front a
    → IsHeapTurn a (heap.Plain plain.EndMark) (replies.Told (told.Doomed count)) b → Leads IsHeapTurn b calls c
    → has (new_clears a.world.heap.objects (doomed_at a)) n ≡ true
    → referent_of (reference_at c.world.heap n) ≡ None
stays_cleared config number count front a b calls c n first ends later new =
    let known = run_known config number front a first in
    let w : World = heap_replayed config number front in
    cleared_at c.world.heap.objects n
    (holds_after IsCall b (λ past x. StaysCleared n x)
    (λ past x call y run is turn.
    turn_cleared n x y _ (told_reply call.reply) (as_turn x y call.step call.reply turn) is)
    (end_clears a b count n (rising_objects known.0 w a known.1.0)
    (old_objects known.0 w a known.1.0) (as_turn a b (heap.Plain plain.EndMark) _ ends) new) calls c later).1

-- and no get of it answers an object
pub never_got : (config : Config) (number count : ℕ) (front : List HeapEntry) (a b : State) (calls : List HeapEntry)
    (c : State) (n m d s k : ℕ) (e : State) → IsHeapRun config number front a
    → IsHeapTurn a (heap.Plain plain.EndMark) (replies.Told (told.Doomed count)) b → Leads IsHeapTurn b calls c
    → has (new_clears a.world.heap.objects (doomed_at a)) n ≡ true
    → slot_at c.world.heap m s ≡ Some n
    → ¬ (IsHeapTurn c (heap.Plain (plain.Get m d s)) (replies.Told (told.Object k)) e)
never_got config number count front a b calls c n m d s k e first ends later new holds turn =
    search (no_get, as_turn, stays_cleared config number count front a b calls c n first ends later new)
