-- Replay: the world after a trace, from its rows alone. Only what a row answered is looked at: a refusal, and any
-- answer that isn't named here, changes nothing (package `java.lang.ref` of Java SE 17 for what the calls of a
-- reference do; the rest is this project's profile).
use Rattle.std.specs.Prelude.{ℕ, ◌-◌, true, ◌==◌, if◌then◌else◌, List, [], ◌∷◌, ◌++◌, length, Option, Some, None}
use Rattle.ref_base.specs.Members.{without_first}
use Rattle.ref_base.specs.Graphs.{plain_object}
use Rattle.ref_base.specs.KeptPaths.{policy_from}
use Rattle.ref_base.specs.Heaps.{Heap, slot_at, reference_at, registered_in, with_slot, with_hold, without_hold}
use Rattle.ref_base.specs.Heaps.{with_changed, with_reference, cleared, nulls, with_clock, new_reference, made, stored}
use Rattle.ref_base.specs.Heaps.{got, cut}
use Rattle.ref_base.specs.QueueLists.{Lists, with_parcel}
use Rattle.ref_base.specs.QueueBatches.{added_among, not_added}
use Rattle.ref_base.specs.Worlds.{World, Notice, Pending, first_world, object_of, hand_of, queue_at, pending_of}
use Rattle.ref_base.specs.Worlds.{with_heap, with_hand, with_queue, with_pending, with_swept}
use Rattle.ref_base.specs.Told.{told_object, told_value, is_done, told_notices, is_nothing, told_dones, told_taken}
use Rattle.ref_base.specs.Told.{told_cycle, is_mark_end, told_cleared, told_swept, is_selected}
use Rattle.ref_base.specs.HeapSteps.{NamedStep, heap_step, handed}
use Rattle.ref_base.specs.declared.config.Config.{Config}
use Rattle.ref_base.specs.declared.out.Done.{Done}
use Rattle.ref_base.specs.declared.actor.Actor.{Actor}
use Rattle.ref_base.specs.declared.actor.Actor.TheVariants.{Mutator}
use Rattle.ref_base.specs.declared.urgency.Urgency.{Urgency}
use Rattle.ref_base.specs.declared.phase.Phase.{Phase}
use Rattle.ref_base.specs.declared.phase.Phase.TheVariants.{Idle, Marking, Clearing, Sweeping, Moving}
use Rattle.ref_base.specs.declared.heap_step.HeapStep.TheVariants as heap
use Rattle.ref_base.specs.declared.plain_step.PlainStep.{PlainStep}
use Rattle.ref_base.specs.declared.plain_step.PlainStep.TheVariants as plain
use Rattle.ref_base.specs.declared.step.Step.{Step}
use Rattle.ref_base.specs.declared.step.Step.TheVariants as steps
use Rattle.ref_base.specs.declared.reply.Reply.{Reply}
use Rattle.ref_base.specs.declared.row.Row.{Row}

-- what comes of what was told, and the same as before where nothing was
abbrev pub if_told : {T R : Type 0} → Option T → (T → R) → R → R
if_told None change before = before
if_told (Some told) change before = change told

-- ---- what each kind of row changes

-- these notices stand last in their queues, one after the other
abbrev pub standing : World → List Notice → World
standing w [] = w
standing w (notice ∷ rest) =
    standing (with_queue w notice.queue (with_parcel (queue_at w notice.queue) notice)) rest

-- where that became of the hand's notices, from the first on, those that were added stand in their queues, and the hand
-- holds the others
abbrev pub put_in : World → Actor → List Done → World
put_in w who [] = w
put_in w who (d ∷ ds) =
    with_hand (standing w (added_among (hand_of w who) (d ∷ ds))) who (not_added (hand_of w who) (d ∷ ds))

-- the notice of n among these, alone
abbrev pub notice_of : List Notice → ℕ → List Notice
notice_of [] n = []
notice_of (notice ∷ rest) n = if notice.object == n then notice ∷ [] else notice_of rest n

-- the notices of these numbers among these, each looked for where the ones before are gone
abbrev pub notices_of : List Notice → List ℕ → List Notice
notices_of notices [] = []
notices_of notices (n ∷ ns) = notice_of notices n ++ notices_of (without_first object_of notices n) ns

-- these without the notices of these numbers
abbrev pub without_notices : List Notice → List ℕ → List Notice
without_notices notices [] = notices
without_notices notices (n ∷ ns) = without_notices (without_first object_of notices n) ns

-- the notices of these numbers were taken from the queue
abbrev pub taken_out : Lists Notice → List ℕ → Lists Notice
taken_out q ns = record q { taken = q.taken ++ ns; stands = without_notices q.stands ns }

-- the hand, which was empty, holds the notices of these numbers, which stood in the queue
abbrev pub took : World → ℕ → ℕ → List ℕ → World
took w m q [] = w
took w m q (n ∷ ns) =
    with_hand (with_queue w q (taken_out (queue_at w q) (n ∷ ns))) (Mutator m)
    (notices_of (queue_at w q).stands (n ∷ ns))

-- the slot holds n, of which there is one hold fewer
abbrev pub adopted : Heap → ℕ → ℕ → ℕ → Heap
adopted h m d n = with_slot (without_hold h n) m d (Some n)

-- these without the first entry of n
abbrev pub without_pending : List Pending → ℕ → List Pending
without_pending = without_first (λ p. p.object)

-- a worker cleared n: it goes last in the worker's pending list if it is registered
abbrev pub pended : World → ℕ → ℕ → Option ℕ → World
pended w k n None = w
pended w k n (Some q) =
    with_pending w k (pending_of w k ++ record { object = n; queue = q; cycle = w.cycle } ∷ [])

-- a reference is cleared for its worker, and goes last in the worker's pending list if it is registered
abbrev pub cleared_for : World → ℕ → ℕ → World
cleared_for w k n =
    pended (with_heap w (with_changed w.heap n (with_reference cleared))) k n (registered_in (reference_at w.heap n))

-- n is no longer pending, and there is one hold more of it
abbrev pub handed_on : World → ℕ → ℕ → World
handed_on w k n =
    let fewer = with_pending w k (without_pending (pending_of w k) n) in
    with_heap fewer (with_hold fewer.heap n)

-- and so of several, one after the other
abbrev pub handed_each : World → ℕ → List Notice → World
handed_each w k [] = w
handed_each w k (notice ∷ rest) = handed_each (handed_on w k notice.object) k rest

-- the reference in the slot is cleared, and there is one hold more of it, where its notice was given
abbrev pub unhooked : World → ℕ → ℕ → List Notice → World
unhooked w m s [] = w
unhooked w m s (notice ∷ rest) = with_heap w (with_hold (cut w.heap m s) notice.object)

-- how many cells are free: all but one for each object that was made and not swept
abbrev pub free_after : World → ℕ
free_after w = w.heap.config.cells - (length w.heap.objects - w.swept)

-- a cycle began when so many cells were free: the clock, its policy, which stays as it is till the next begin, and its
-- number
abbrev pub begun : World → ℕ → ℕ → Urgency → ℕ → World
begun w free now urgency n =
    record w {
      heap = with_clock w.heap now;
      policy = policy_from w.heap.config free now urgency;
      cycle = n;
      phase = Marking;
    }

abbrev pub with_phase : World → Phase → World
with_phase w phase = record w { phase = phase }

abbrev pub closed_queue : World → ℕ → World
closed_queue w q = with_queue w q (let k = queue_at w q in record k { closed = true })

-- ---- the replay

-- the world after one more row of a step that hands nothing over
abbrev pub after_plain : World → PlainStep → Reply → World
after_plain w (plain.New m d k) r =
    if_told (told_object r) (λ n. with_heap w (made w.heap m d (plain_object n (nulls k)))) w
after_plain w (plain.Refer m strength d s q k) r =
    if_told (told_object r)
    (λ n. with_heap w (made w.heap m d (new_reference w.heap n strength (slot_at w.heap m s) q k))) w
after_plain w (plain.Store m s i v) r = if is_done r then with_heap w (stored w.heap m s i v) else w
after_plain w (plain.Load m d s i) r = if_told (told_value r) (λ value. with_heap w (with_slot w.heap m d value)) w
after_plain w (plain.Copy m d s) r = if_told (told_value r) (λ value. with_heap w (with_slot w.heap m d value)) w
after_plain w (plain.Drop m s) r = if is_done r then with_heap w (with_slot w.heap m s None) else w
after_plain w (plain.Get m d s) r = if_told (told_value r) (λ value. with_heap w (got w.heap m d s value)) w
after_plain w (plain.Clear m s) r = if is_done r then with_heap w (cut w.heap m s) else w
after_plain w (plain.RefersTo m s v) r = w
after_plain w (plain.Begin now urgency) r = if_told (told_cycle r) (λ n. begun w (free_after w) now urgency n) w
after_plain w (plain.Scan k) r = w
after_plain w plain.EndMark r = if is_mark_end r then with_phase w Clearing else w
after_plain w (plain.ClearNext k) r = if_told (told_cleared r) (λ n. cleared_for w k n) w
after_plain w plain.EndClear r = if is_done r then with_phase w Sweeping else w
after_plain w (plain.Sweep k) r = if_told (told_swept r) (λ count. with_swept w count) w
after_plain w plain.EndSweep r = if is_done r then with_phase w Idle else w
after_plain w plain.Select r = if is_selected r then with_phase w Moving else w
after_plain w (plain.MoveNext k) r = w
after_plain w plain.EndMove r = if is_done r then with_phase w Idle else w

-- the world after one more row of its heap, but for its hands
abbrev pub after_heap : World → NamedStep → Reply → World
after_heap w (heap.Plain step) r = after_plain w step r
after_heap w (heap.Unhook m s) r =
    if is_nothing r then with_heap w (cut w.heap m s) else unhooked w m s (told_notices r)
after_heap w (heap.Hold m s) r = if_told (told_object r) (λ n. with_heap w (with_hold w.heap n)) w
after_heap w (heap.Adopt m d hold) r = if_told (told_object r) (λ n. with_heap w (adopted w.heap m d n)) w
after_heap w (heap.Release hold) r = if is_done r then with_heap w (without_hold w.heap hold.object) else w
after_heap w (heap.Hand k) r = handed_each w k (told_notices r)
after_heap w (heap.Hands k max batch) r = handed_each w k (told_notices r)

-- the world after one more row of its queues
abbrev pub after_queues : World → Step → Reply → World
after_queues w (steps.Put who) r = put_in w who (told_dones r)
after_queues w (steps.Puts who) r = put_in w who (told_dones r)
after_queues w (steps.Poll m q) r = took w m q (told_taken r)
after_queues w (steps.Polls m q max) r = took w m q (told_taken r)
after_queues w (steps.Close m q) r = if is_done r then closed_queue w q else w
after_queues w step r = w

-- the world after a row that asked this of its heap, if anything
abbrev pub after_asking : World → Option NamedStep → Step → Reply → World
after_asking w None step r = after_queues w step r
after_asking w (Some asked) step r = handed (after_heap w asked r) step r

-- the world after one more row
abbrev pub after : World → Step → Reply → World
after w step r = after_asking w (heap_step w step) step r

-- the world after some rows
abbrev pub replayed_from : World → List Row → World
replayed_from w [] = w
replayed_from w (row ∷ rows) = replayed_from (after w row.step row.reply) rows

-- the world after a trace
abbrev pub replayed : Config → List Row → World
replayed config rows = replayed_from (first_world config) rows
