-- The rows of the abstract collector: which step may be answered how in a state, and what state that leaves (package
-- `java.lang.ref` of Java SE 17 for what the calls of a reference answer and for clearing at one instant; cycles,
-- moves, workers and queues: this project's profile).
use Rattle.std.specs.Prelude.{◌≡◌, ℕ, ◌+◌, ◌-◌, ◌<◌, Bool, true, false, ◌==◌, if◌then◌else◌, min, List, [], ◌∷◌, ◌++◌}
use Rattle.std.specs.Prelude.{map, length, take, drop, Option, Some, None, slice_index_or, slice_set, ◌⊎◌, is_some}
use Rattle.ref_base.specs.Members.{has}
use Rattle.ref_base.specs.Graphs.{Object, Reference, object_at, is_there, plain_object}
use Rattle.ref_base.specs.Paths.{is_phantom}
use Rattle.ref_base.specs.KeptPaths.{EverKept}
use Rattle.ref_base.specs.DoomedSets.{unscanned, MayDoom, is_new_clear, new_clears}
use Rattle.ref_base.specs.Heaps.{Heap, slot_at, reference_at, reference_in, registered_in, with_slot, with_reference}
use Rattle.ref_base.specs.Heaps.{cleared, nulls, new_reference, made, stored, got, cut, with_hold, without_hold}
use Rattle.std.specs.List.{list_all}
use Rattle.ref_base.specs.Outs.{Outs}
use Rattle.ref_base.specs.QueueBatches.{TellsBatch}
use Rattle.ref_base.specs.QueueLists.{enqueued, was_put}
use Rattle.ref_base.specs.Worlds.{World, Notice, Pending, graph_of, object_of, hand_of, queue_at, pending_of, with_heap}
use Rattle.ref_base.specs.Worlds.{with_swept, notice_from}
use Rattle.ref_base.specs.HeapSteps.{NamedStep, heap_step, handed}
use Rattle.ref_base.specs.Replay.{put_in, took, adopted, pended, handed_each, begun, with_phase, closed_queue}
use Rattle.ref_base.specs.Collectors.{State, joined}
use Rattle.ref_base.specs.Refusals.{heap_refusal, refusal, is_in, batch_of}
use Rattle.ref_base.specs.Runs.{LeadsThrough}
use Rattle.ref_base.specs.declared.cause.Cause.TheVariants.{Own, Cycle}
use Rattle.ref_base.specs.declared.out.Done.TheVariants.{Added}
use Rattle.ref_base.specs.declared.actor.Actor.{Actor}
use Rattle.ref_base.specs.declared.phase.Phase.TheVariants.{Idle, Marking, Clearing, Sweeping, Moving}
use Rattle.ref_base.specs.declared.fault.Fault.{Fault}
use Rattle.ref_base.specs.declared.fault.Fault.TheVariants.{NoMemory, MovesLeft, NoRoom, AddressesSpent}
use Rattle.ref_base.specs.declared.heap_step.HeapStep.TheVariants as heap
use Rattle.ref_base.specs.declared.plain_step.PlainStep.{PlainStep}
use Rattle.ref_base.specs.declared.plain_step.PlainStep.TheVariants as plain
use Rattle.ref_base.specs.declared.step.Step.{Step}
use Rattle.ref_base.specs.declared.step.Step.TheVariants as steps
use Rattle.ref_base.specs.declared.reply.Reply.{Reply}
use Rattle.ref_base.specs.declared.reply.Reply.TheVariants as replies
use Rattle.ref_base.specs.declared.row.Row.{Row}

-- ---- the forms of a row

abbrev pub with_world : State → World → State
with_world a w = record a { world = w }

abbrev pub on_heap : State → Heap → State
on_heap a h = with_world a (with_heap a.world h)

-- in a mark, the graph of this moment joins those of the mark
abbrev pub ticked : State → State
ticked a = if is_in a.world.phase Marking then record a { moments = graph_of a.world ∷ a.moments } else a

-- the answer is this one, and it leaves this state
abbrev pub Gives : Reply → State → Reply → State → Type 0
Gives answer c reply b = (reply ≡ answer) × (b ≡ ticked c)

-- an object is left: it was ever kept, it was made before the cycle began, and no row of the cycle scanned it
abbrev pub IsLeft : State → ℕ → Type 0
IsLeft a n = EverKept a.world.policy a.moments n × (n < a.born) × (has (joined a.scanned) n ≡ false)

-- b is c, but that it says anew whether an object is left, and says so only where one is
abbrev pub IsBut : State → State → Type 0
IsBut c b = (left : Bool) × (b ≡ record c { left = left }) × (left ≡ true → (n : ℕ) × IsLeft b n)

-- the answer is this one, and where the flag says so the state it leaves says anew whether an object is left
abbrev pub GivesAnewIf : Bool → Reply → State → Reply → State → Type 0
GivesAnewIf true answer c reply b = (reply ≡ answer) × IsBut (ticked c) b
GivesAnewIf false answer c reply b = Gives answer c reply b

-- the answer is this one, and in a mark the state it leaves says anew whether an object is left
abbrev pub GivesAnew : Reply → State → Reply → State → Type 0
GivesAnew answer c = GivesAnewIf (is_in c.world.phase Marking) answer c

-- an object or null
abbrev pub value_reply : Option ℕ → Reply
value_reply None = replies.Null
value_reply (Some n) = replies.Object n

-- ---- objects, slots and references

-- one more object
abbrev pub Makes : State → ℕ → ℕ → Object → Reply → State → Type 0
Makes a m d o =
    Gives (replies.Object a.next) (record a { world = with_heap a.world (made a.world.heap m d o); next = a.next + 1 })

-- what the field of the object holds
abbrev pub field_of : Option Object → ℕ → Option ℕ
field_of None i = None
field_of (Some o) i = slice_index_or o.fields i None

abbrev pub field_in : Heap → Option ℕ → ℕ → Option ℕ
field_in h None i = None
field_in h (Some n) i = field_of (object_at h.objects n) i

-- a load answers what the field holds
abbrev pub Loads : State → ℕ → ℕ → Option ℕ → Reply → State → Type 0
Loads a m d None = Gives replies.Null (on_heap a (with_slot a.world.heap m d None))
Loads a m d (Some n) = GivesAnew (replies.Object n) (on_heap a (with_slot a.world.heap m d (Some n)))

-- what the reference in the slot is
abbrev pub reference_of : Heap → Option ℕ → Option Reference
reference_of h None = None
reference_of h (Some n) = reference_at h n

-- what a get answers: nothing of a phantom reference, and else the referent
abbrev pub referent_got : Option Reference → Option ℕ
referent_got None = None
referent_got (Some r) = if is_phantom r.strength then None else r.referent

-- a get answers the referent, if any
abbrev pub Gets : State → ℕ → ℕ → ℕ → Option ℕ → Reply → State → Type 0
Gets a m d s None = Gives replies.Null (on_heap a (got a.world.heap m d s None))
Gets a m d s (Some n) = GivesAnew (replies.Object n) (on_heap a (got a.world.heap m d s (Some n)))

-- whether two values are the same object, or both null
abbrev pub is_same : Option ℕ → Option ℕ → Bool
is_same None None = true
is_same None (Some n) = false
is_same (Some m) None = false
is_same (Some m) (Some n) = m == n

-- the referent of a reference
abbrev pub referent_of : Option Reference → Option ℕ
referent_of None = None
referent_of (Some r) = r.referent

-- an unhook clears the reference, and gives a notice where it is registered, which is a hold of the reference
abbrev pub Unhooks : State → ℕ → ℕ → Option ℕ → Option ℕ → Reply → State → Type 0
Unhooks a m s None queue = Gives replies.Nothing (on_heap a (cut a.world.heap m s))
Unhooks a m s (Some n) None = Gives replies.Nothing (on_heap a (cut a.world.heap m s))
Unhooks a m s (Some n) (Some q) = Gives (replies.Notice n q Own) (on_heap a (with_hold (cut a.world.heap m s) n))

-- one hold more of what a slot holds
abbrev pub Holds : State → Option ℕ → Reply → State → Type 0
Holds a None reply b = ⊥
Holds a (Some n) reply b = Gives (replies.Object n) (on_heap a (with_hold a.world.heap n)) reply b

-- ---- queues

-- a put is Already where the reference was ever put in, else Closed where the queue is closed, else Added; only then
-- it may be refused for want of memory
abbrev pub PutsInto : Bool → Bool → State → Actor → Notice → List Notice → Reply → State → Type 0
PutsInto true closed a who notice rest reply b = Gives replies.Already a reply b
PutsInto false true a who notice rest reply b = Gives replies.Closed a reply b
PutsInto false false a who notice rest reply b =
    Gives (replies.Added (length (enqueued object_of (queue_at a.world notice.queue))))
    (with_world a (put_in a.world who (Added ∷ []))) reply b
    ⊎ ((reply ≡ replies.Refused NoMemory) × (b ≡ a))

-- a put of the hand's first notice
abbrev pub Puts : State → Actor → List Notice → Reply → State → Type 0
Puts a who [] reply b = ⊥
Puts a who (notice ∷ rest) reply b =
    let q = queue_at a.world notice.queue in
    PutsInto (was_put object_of q notice) q.closed a who notice rest reply b

-- a put of all notices of the hand, one after the other, into their one queue: it tells what became of each, and ends
-- where memory is refused for one
abbrev pub PutsAll : State → Actor → List Notice → Reply → State → Type 0
PutsAll a who [] reply b = ⊥
PutsAll a who (notice ∷ rest) reply b =
    (outs : Outs)
    × (list_all (λ (x : Notice). x.queue == notice.queue) rest ≡ true)
    × TellsBatch object_of (λ (x : Notice). x.queue) (queue_at a.world notice.queue) (notice ∷ rest) outs
    × Gives (replies.Outs outs) (with_world a (put_in a.world who outs.done)) reply b

-- a poll takes these, which stand first, and tells it so; or it tells that nothing stands
abbrev pub Polls : State → ℕ → ℕ → (List ℕ → Reply) → List Notice → Reply → State → Type 0
Polls a m q tell [] = Gives (if (queue_at a.world q).closed then replies.Closed else replies.Empty) a
Polls a m q tell (notice ∷ rest) =
    let taken = map object_of (notice ∷ rest) in Gives (tell taken) (with_world a (took a.world m q taken))

-- how a poll of one tells of it
abbrev pub one_taken : List ℕ → Reply
one_taken [] = replies.Empty
one_taken (n ∷ ns) = replies.Took n

-- a close answers ok where the queue is open, and else that it is closed
abbrev pub Closes : State → ℕ → Bool → Reply → State → Type 0
Closes a q true = Gives replies.Closed a
Closes a q false = Gives replies.Done (with_world a (closed_queue a.world q))

-- ---- the cycle

-- as many empty lists as there are lists
abbrev pub emptied : List (List ℕ) → List (List ℕ)
emptied lists = map (λ ns. []) lists

-- how many cells are free: all but one for each object that is there
abbrev pub free_cells : Heap → ℕ
free_cells h = h.config.cells - length h.objects

-- a cycle begins: nothing is scanned, and what is kept now is ever kept
abbrev pub begun_state : State → World → State
begun_state a w = record a {
  world = w;
  born = a.next;
  moments = [];
  scanned = emptied a.scanned;
  doomed = [];
  cleared = [];
  found = emptied a.found;
}

abbrev pub list_at : List (List ℕ) → ℕ → List ℕ
list_at lists k = slice_index_or lists k []

-- a scan answers Scanned, of an object that is left, exactly where it is said that one is
abbrev pub Scans : State → ℕ → Reply → State → Type 0
Scans a k (replies.Scanned n) b =
    (a.left ≡ true) × IsLeft a n
    × IsBut (ticked (record a { scanned = slice_set a.scanned k (list_at a.scanned k ++ n ∷ []) })) b
Scans a k reply b = (a.left ≡ false) × Gives replies.Nothing a reply b

-- the references among these objects
abbrev pub references_among : List Object → List ℕ → List ℕ
references_among os [] = []
references_among os (n ∷ ns) =
    if is_some (reference_in (object_at os n)) then n ∷ references_among os ns else references_among os ns

-- whether the one list is what is left of the other where some entries are taken out
abbrev pub is_subsequence : List ℕ → List ℕ → Bool
is_subsequence [] ns = true
is_subsequence (m ∷ ms) [] = false
is_subsequence (m ∷ ms) (n ∷ ns) = if m == n then is_subsequence ms ns else is_subsequence (m ∷ ms) ns

-- each worker found some of the references that it scanned, in order
abbrev pub AreFound : List Object → List (List ℕ) → List (List ℕ) → Type 0
AreFound os [] [] = Unit {0}
AreFound os [] (fs ∷ found) = ⊥
AreFound os (ss ∷ scanned) [] = ⊥
AreFound os (ss ∷ scanned) (fs ∷ found) =
    (is_subsequence fs (references_among os ss) ≡ true) × AreFound os scanned found

-- the object, cleared if it is a new clear
abbrev pub shown : List ℕ → Object → Object
shown d o = if is_new_clear d o then with_reference cleared o else o

-- the mark ends: all new clears are cleared at once
abbrev pub mark_ended : State → List ℕ → List (List ℕ) → State
mark_ended a d found = record a {
  world = with_phase
      (with_heap a.world (record a.world.heap { objects = map (λ o. shown d o) a.world.heap.objects })) Clearing;
  doomed = d;
  cleared = new_clears a.world.heap.objects d;
  found = found;
}

-- what a mark's end dooms: what was made before the cycle and never scanned
abbrev pub doomed_at : State → List ℕ
doomed_at a = unscanned a.world.heap.objects a.born (joined a.scanned)

-- A mark's end answers how many it dooms, and it may doom them. Each worker has found some of the references that it
-- scanned, and some worker has found each new clear.
pub record EndsMark (a : State) (reply : Reply) (b : State) : Type 0 where
  pub answer : reply ≡ replies.Doomed (length (doomed_at a))
  pub may_doom : MayDoom a.world.policy (graph_of a.world) a.moments (doomed_at a)
  pub found : List (List ℕ)
  pub are_found : AreFound a.world.heap.objects a.scanned found
  pub all_found : (n : ℕ) → has (new_clears a.world.heap.objects (doomed_at a)) n ≡ true → has (joined found) n ≡ true
  pub after : b ≡ mark_ended a (doomed_at a) found

-- the first that a worker found is Cleared if the mark's end cleared it, else Skipped if it has no referent, else Kept
abbrev pub looked_at : State → ℕ → ℕ → Reply
looked_at a k n =
    if has a.cleared n then replies.Cleared n else
    (if is_some (referent_of (reference_at a.world.heap n)) then replies.Kept n else replies.Skipped n)

-- and it goes last in the worker's pending list if it was cleared and is registered
abbrev pub looked : State → ℕ → ℕ → List ℕ → State
looked a k n rest = record a {
  world =
      if has a.cleared n then pended a.world k n (registered_in (reference_at a.world.heap n)) else a.world;
  found = slice_set a.found k rest;
}

abbrev pub ClearsNext : State → ℕ → List ℕ → Reply → State → Type 0
ClearsNext a k [] = Gives replies.Nothing a
ClearsNext a k (n ∷ rest) = Gives (looked_at a k n) (looked a k n rest)

-- the notices of these references, which are pending first, are given, each of which is a hold of its reference
abbrev pub HandsOn : State → ℕ → Reply → List Pending → Reply → State → Type 0
HandsOn a k answer ps = Gives answer (with_world a (handed_each a.world k (map (notice_from k) ps)))

-- what a worker that hands on the first of these answers
abbrev pub one_handed : ℕ → List Pending → Reply
one_handed k [] = replies.Nothing
one_handed k (p ∷ ps) = replies.Notice p.object p.queue (Cycle p.cycle k)

-- and one that hands on them all, which have the queue and the cycle of the first
abbrev pub all_handed : ℕ → List Pending → Reply
all_handed k [] = replies.Nothing
all_handed k (p ∷ ps) = replies.Notices (map (λ r. r.object) (p ∷ ps)) p.queue p.cycle k

-- the objects without those of these numbers
abbrev pub without : List ℕ → List Object → List Object
without ns [] = []
without ns (o ∷ os) = if has ns o.no then without ns os else o ∷ without ns os

-- a sweep frees the 64 least of the doomed, or all
abbrev pub Sweeps : State → List ℕ → Reply → State → Type 0
Sweeps a [] = Gives replies.Nothing a
Sweeps a (n ∷ ns) =
    Gives (replies.Swept (min 64 (length (n ∷ ns))))
    (record a {
      world = with_swept
          (with_heap a.world (record a.world.heap { objects = without (take 64 (n ∷ ns)) a.world.heap.objects }))
          (min 64 (length (n ∷ ns)));
      doomed = drop 64 (n ∷ ns);
    })

-- a sweep's end: objects may be chosen to move again
abbrev pub sweep_ended : State → State
sweep_ended a = record a { world = with_phase a.world Idle; moved = false }

-- ---- moves: where objects lie is no part of the state, so it tells neither which of them are to move, nor how many,
-- nor whether there is room for that

-- objects were chosen, and move from now on
abbrev pub move_begun : State → State
move_begun a = record a { world = with_phase a.world Moving; moved = true }

-- a select answers how many objects are to move, or it is refused: no room would be won, or too few addresses are left
abbrev pub Selects : State → Reply → State → Type 0
Selects a reply b =
    ((count : ℕ) × Gives (replies.Selected count) (move_begun a) reply b)
    ⊎ (((reply ≡ replies.Refused NoRoom) ⊎ (reply ≡ replies.Refused AddressesSpent)) × (b ≡ a))

-- a move answers an object that is there, or that none is left to move
abbrev pub Moves : State → Reply → State → Type 0
Moves a (replies.Moved n) b = (is_there a.world.heap.objects n ≡ true) × (b ≡ a)
Moves a reply b = (reply ≡ replies.Nothing) × (b ≡ a)

-- a move's end is accepted, or refused while an object is left to move
abbrev pub EndsMove : State → Reply → State → Type 0
EndsMove a reply b =
    Gives replies.Done (with_world a (with_phase a.world Idle)) reply b
    ⊎ ((reply ≡ replies.Refused MovesLeft) × (b ≡ a))

-- ---- the rows of a heap

-- a step that hands nothing over and isn't refused may be answered so, and leaves this state
abbrev pub PlainAccepts : State → PlainStep → Reply → State → Type 0
PlainAccepts a (plain.New m d k) = Makes a m d (plain_object a.next (nulls k))
PlainAccepts a (plain.Refer m strength d s q k) =
    Makes a m d (new_reference a.world.heap a.next strength (slot_at a.world.heap m s) q k)
PlainAccepts a (plain.Store m s i v) = Gives replies.Done (on_heap a (stored a.world.heap m s i v))
PlainAccepts a (plain.Load m d s i) = Loads a m d (field_in a.world.heap (slot_at a.world.heap m s) i)
PlainAccepts a (plain.Copy m d s) =
    Gives (value_reply (slot_at a.world.heap m s)) (on_heap a (with_slot a.world.heap m d (slot_at a.world.heap m s)))
PlainAccepts a (plain.Drop m s) = Gives replies.Done (on_heap a (with_slot a.world.heap m s None))
PlainAccepts a (plain.Get m d s) =
    Gets a m d s (referent_got (reference_of a.world.heap (slot_at a.world.heap m s)))
PlainAccepts a (plain.Clear m s) = Gives replies.Done (on_heap a (cut a.world.heap m s))
PlainAccepts a (plain.RefersTo m s v) =
    let reference = reference_of a.world.heap (slot_at a.world.heap m s) in
    Gives (replies.Refers (is_same (referent_of reference) (slot_at a.world.heap m v))) a
PlainAccepts a (plain.Begin now urgency) =
    let n = a.world.cycle + 1 in
    GivesAnew (replies.Cycle n) (begun_state a (begun a.world (free_cells a.world.heap) now urgency n))
PlainAccepts a (plain.Scan k) = Scans a k
PlainAccepts a plain.EndMark = EndsMark a
PlainAccepts a (plain.ClearNext k) = ClearsNext a k (list_at a.found k)
PlainAccepts a plain.EndClear = Gives replies.Done (with_world a (with_phase a.world Sweeping))
PlainAccepts a (plain.Sweep k) = Sweeps a a.doomed
PlainAccepts a plain.EndSweep = Gives replies.Done (sweep_ended a)
PlainAccepts a plain.Select = Selects a
PlainAccepts a (plain.MoveNext k) = Moves a
PlainAccepts a plain.EndMove = EndsMove a

-- a step that isn't refused may be answered so, and leaves this state
abbrev pub HeapAccepts : State → NamedStep → Reply → State → Type 0
HeapAccepts a (heap.Plain step) = PlainAccepts a step
HeapAccepts a (heap.Unhook m s) =
    let held = slot_at a.world.heap m s in
    Unhooks a m s held (registered_in (reference_of a.world.heap held))
HeapAccepts a (heap.Hold m s) = Holds a (slot_at a.world.heap m s)
HeapAccepts a (heap.Adopt m d hold) =
    Gives (replies.Object hold.object) (on_heap a (adopted a.world.heap m d hold.object))
HeapAccepts a (heap.Release hold) = Gives replies.Done (on_heap a (without_hold a.world.heap hold.object))
HeapAccepts a (heap.Hand k) =
    let first = take 1 (pending_of a.world k) in HandsOn a k (one_handed k first) first
HeapAccepts a (heap.Hands k max batch) =
    let some = batch_of max (pending_of a.world k) in HandsOn a k (all_handed k some) some

-- the row of a step that is refused or not
abbrev pub IsHeapAnswer : State → Option Fault → NamedStep → Reply → State → Type 0
IsHeapAnswer a (Some fault) step reply b = (reply ≡ replies.Refused fault) × (b ≡ a)
IsHeapAnswer a None step reply b = HeapAccepts a step reply b

-- from this state, the step of the heap may be answered so, and then leaves the state b
abbrev pub IsHeapRow : State → NamedStep → Reply → State → Type 0
IsHeapRow a step reply b = IsHeapAnswer a (heap_refusal a step) step reply b

-- ---- the rows

-- what a step of queues may be answered
abbrev pub QueuesAccept : State → Step → Reply → State → Type 0
QueuesAccept a (steps.Put who) reply b = Puts a who (hand_of a.world who) reply b
QueuesAccept a (steps.Puts who) reply b = PutsAll a who (hand_of a.world who) reply b
QueuesAccept a (steps.Poll m q) reply b = Polls a m q one_taken (take 1 (queue_at a.world q).stands) reply b
QueuesAccept a (steps.Polls m q max) reply b =
    Polls a m q replies.TookSome (take max (queue_at a.world q).stands) reply b
QueuesAccept a (steps.Close m q) reply b = Closes a q (queue_at a.world q).closed reply b
QueuesAccept a step reply b = ⊥

-- the state that a row of the heap leaves, with what the step leaves in the hands
abbrev pub with_handed : State → Step → Reply → State
with_handed c step reply = with_world c (handed c.world step reply)

-- what a step asks of its heap is a row of it, and then come the hands; what asks nothing is a step of queues
abbrev pub AcceptsAsking : State → Option NamedStep → Step → Reply → State → Type 0
AcceptsAsking a None step reply b = QueuesAccept a step reply b
AcceptsAsking a (Some asked) step reply b =
    (c : State) × HeapAccepts a asked reply c × (b ≡ with_handed c step reply)

-- a step that isn't refused may be answered so, and leaves this state
abbrev pub Accepts : State → Step → Reply → State → Type 0
Accepts a step reply b = AcceptsAsking a (heap_step a.world step) step reply b

-- the row of a step that is refused or not
abbrev pub IsAnswer : State → Option Fault → Step → Reply → State → Type 0
IsAnswer a (Some fault) step reply b = (reply ≡ replies.Refused fault) × (b ≡ a)
IsAnswer a None step reply b = Accepts a step reply b

-- from this state, the step may be answered so, and then leaves the state b
abbrev pub IsRow : State → Row → State → Type 0
IsRow a row b = IsAnswer a (refusal a row.step) row.step row.reply b

-- the rows lead from the one state to the other
abbrev pub IsRun : State → List Row → State → Type 0
IsRun = LeadsThrough IsRow
