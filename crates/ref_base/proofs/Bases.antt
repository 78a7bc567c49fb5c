-- The base of a state is all of it but whether an object is left, and what workers found and have not looked at. Each
-- row leaves one base, which the base before, the step and the answer tell.
use Rattle.ref_base.proofs.Common.{◌≡◌, ℕ, ◌+◌, Bool, true, false, List, [], ◌∷◌, ◌++◌, take, drop, length, map, Option}
use Rattle.ref_base.proofs.Common.{Some, None, refl, sym, ap, ◌∙◌, inl, inr, ◌⊎◌, if◌then◌else◌, slice_set, cases_Bool}
use Rattle.ref_base.proofs.Common.{is_some, has, reference_at, registered_in, with_slot, Pending, Notice, with_heap}
use Rattle.ref_base.proofs.Common.{NamedStep, pended, heap_step, hand_of, queue_at, object_of, handed_each}
use Rattle.ref_base.proofs.Common.{closed_queue, after_queues, took, told_notices, told_taken, notice_from, pending_of}
use Rattle.ref_base.proofs.Common.{batch_of, one_handed, all_handed, one_taken, State, ticked, is_in, IsBut, Gives}
use Rattle.ref_base.proofs.Common.{GivesAnewIf, Loads, Gets, Unhooks, Holds, Scans, ClearsNext, HandsOn, Sweeps}
use Rattle.ref_base.proofs.Common.{Selects, Moves, EndsMove, HeapAccepts, QueuesAccept, AcceptsAsking, IsAnswer, IsRow}
use Rattle.ref_base.proofs.Common.{PutsInto, Puts, PutsAll, Polls, Closes, value_reply, list_at, on_heap, with_world}
use Rattle.ref_base.proofs.Common.{with_handed, without, mark_ended, doomed_at, referent_of, refusal, heap_refusal}
use Rattle.ref_base.proofs.Common.{Marking, Moving, Actor, Mutator, Fault, Step, Reply, Row, false≢true, true≢false}
use Rattle.ref_base.proofs.Common.{handed, World, spending, hold_of, begun_state, begun}
use Rattle.std.specs.Prelude.{min}
use Rattle.ref_base.proofs.BatchParts.{tells_one, tells_all, told_one}
use Rattle.ref_base.proofs.Outcomes.{outcome}
use Rattle.ref_base.proofs.PhaseLaws.{of_phase}
use Rattle.ref_base.specs.Worlds.{with_swept}
use Rattle.ref_base.specs.CollectorRows.{move_begun, free_cells}
use Rattle.ref_base.specs.declared.heap_step.HeapStep.TheVariants as heap
use Rattle.ref_base.specs.declared.plain_step.PlainStep.TheVariants as plain
use Rattle.ref_base.specs.declared.step.Step.TheVariants as steps
use Rattle.ref_base.specs.declared.reply.Reply.TheVariants as replies

-- all of a state but what is free in it
abbrev pub base : State → State
base a = record a { left = false; found = [] }

-- whether the answer refuses
abbrev pub refuses : Reply → Bool
refuses (replies.Refused fault) = true
refuses reply = false

-- ---- moments, and what is said anew

-- a moment more of a mark, and the base, in either order
base_ticked : (c : State) → base (ticked c) ≡ ticked (base c)
base_ticked c =
    elim (cases_Bool (is_in c.world.phase Marking)) [ inl marks ↦ simp marks refl | inr other ↦ simp other refl ]

ticked_base : (c d : State) → base c ≡ base d → base (ticked c) ≡ base (ticked d)
ticked_base c d same = base_ticked c ∙ ap ticked same ∙ sym (base_ticked d)

-- outside a mark there is no moment more
ticked_other : (c : State) → c.world.phase ≡ Moving → ticked c ≡ c
ticked_other c moves = simp moves refl

-- what is said anew is no part of the base
base_but : (c b : State) → IsBut c b → base b ≡ base c
base_but c b but = ap base but.1

-- ---- rows of a heap

-- an accepted row leads where its answer says; or it refuses after all, and changes nothing
abbrev pub HasBase : State → State → Reply → State → Type 0
HasBase a c reply b =
    ((refuses reply ≡ false) × (base b ≡ base (ticked c))) ⊎ ((refuses reply ≡ true) × (b ≡ a))

-- a row of the heap leads where its answer says
abbrev Leads : State → NamedStep → Reply → State → Type 0
Leads a step reply b = HasBase a (outcome a step reply) reply b

-- one that gives this answer
answered : (a c b : State) (step : NamedStep) (answer reply : Reply) → refuses answer ≡ false → reply ≡ answer
    → base b ≡ base (ticked c) → base c ≡ base (outcome a step answer) → Leads a step reply b
answered a c b step answer reply tells is left leads =
    inl (
      ap refuses is ∙ tells,
      left ∙ ticked_base c (outcome a step answer) leads
          ∙ ap (λ (r : Reply). base (ticked (outcome a step r))) (sym is),
    )

given : (a c b : State) (step : NamedStep) (answer reply : Reply) → refuses answer ≡ false → Gives answer c reply b
    → base c ≡ base (outcome a step answer) → Leads a step reply b
given a c b step answer reply tells row leads = answered a c b step answer reply tells row.0 (ap base row.1) leads

-- or one that also says anew whether an object is left
given_anew : (a c b : State) (step : NamedStep) (marks : Bool) (answer reply : Reply) → refuses answer ≡ false
    → GivesAnewIf marks answer c reply b → base c ≡ base (outcome a step answer) → Leads a step reply b
given_anew a c b step true answer reply tells row leads =
    answered a c b step answer reply tells row.0 (base_but (ticked c) b row.1) leads
given_anew a c b step false answer reply tells row leads = given a c b step answer reply tells row leads

loads : (a b : State) (m d s i : ℕ) (value : Option ℕ) (reply : Reply) → Loads a m d value reply b
    → Leads a (heap.Plain (plain.Load m d s i)) reply b
loads a b m d s i None reply row = given a _ b (heap.Plain (plain.Load m d s i)) replies.Null reply refl row refl
loads a b m d s i (Some n) reply row =
    given_anew a _ b (heap.Plain (plain.Load m d s i)) _ (replies.Object n) reply refl row refl

copies : (a b : State) (m d s : ℕ) (value : Option ℕ) (reply : Reply)
    → Gives (value_reply value) (on_heap a (with_slot a.world.heap m d value)) reply b
    → Leads a (heap.Plain (plain.Copy m d s)) reply b
copies a b m d s None reply row = given a _ b (heap.Plain (plain.Copy m d s)) replies.Null reply refl row refl
copies a b m d s (Some n) reply row =
    given a _ b (heap.Plain (plain.Copy m d s)) (replies.Object n) reply refl row refl

gets : (a b : State) (m d s : ℕ) (value : Option ℕ) (reply : Reply) → Gets a m d s value reply b
    → Leads a (heap.Plain (plain.Get m d s)) reply b
gets a b m d s None reply row = given a _ b (heap.Plain (plain.Get m d s)) replies.Null reply refl row refl
gets a b m d s (Some n) reply row =
    given_anew a _ b (heap.Plain (plain.Get m d s)) _ (replies.Object n) reply refl row refl

unhooks : (a b : State) (m s : ℕ) (held queue : Option ℕ) (reply : Reply) → Unhooks a m s held queue reply b
    → Leads a (heap.Unhook m s) reply b
unhooks a b m s None queue reply row = given a _ b (heap.Unhook m s) replies.Nothing reply refl row refl
unhooks a b m s (Some n) None reply row = given a _ b (heap.Unhook m s) replies.Nothing reply refl row refl
unhooks a b m s (Some n) (Some q) reply row = given a _ b (heap.Unhook m s) _ reply refl row refl

holds : (a b : State) (m s : ℕ) (held : Option ℕ) (reply : Reply) → Holds a held reply b
    → Leads a (heap.Hold m s) reply b
holds a b m s None reply row = absurd row
holds a b m s (Some n) reply row = given a _ b (heap.Hold m s) (replies.Object n) reply refl row refl

scans : (a b : State) (k : ℕ) (reply : Reply) → Scans a k reply b → Leads a (heap.Plain (plain.Scan k)) reply b
scans a b k (replies.Scanned n) row =
    inl (refl, base_but (ticked (record a { scanned = slice_set a.scanned k (list_at a.scanned k ++ n ∷ []) })) b row.2)
scans a b k reply row = given a a b (heap.Plain (plain.Scan k)) replies.Nothing reply refl row.1 refl

-- what a worker looks at is told by the answer: it is the first that it found
looks : (a b : State) (k n : ℕ) (rest : List ℕ) (cut named : Bool) (reply : Reply)
    → Gives (if cut then replies.Cleared n else (if named then replies.Kept n else replies.Skipped n))
    (record a {
      world = if cut then pended a.world k n (registered_in (reference_at a.world.heap n)) else a.world;
      found = slice_set a.found k rest;
    }) reply b
    → Leads a (heap.Plain (plain.ClearNext k)) reply b
looks a b k n rest true named reply row =
    given a _ b (heap.Plain (plain.ClearNext k)) (replies.Cleared n) reply refl row refl
looks a b k n rest false true reply row =
    given a _ b (heap.Plain (plain.ClearNext k)) (replies.Kept n) reply refl row refl
looks a b k n rest false false reply row =
    given a _ b (heap.Plain (plain.ClearNext k)) (replies.Skipped n) reply refl row refl

looks_at : (a b : State) (k : ℕ) (found : List ℕ) (reply : Reply) → ClearsNext a k found reply b
    → Leads a (heap.Plain (plain.ClearNext k)) reply b
looks_at a b k [] reply row = given a a b (heap.Plain (plain.ClearNext k)) replies.Nothing reply refl row refl
looks_at a b k (n ∷ rest) reply row =
    looks a b k n rest (has a.cleared n) (is_some (referent_of (reference_at a.world.heap n))) reply row

-- what is handed on is told by the answer
hands_on : (a b : State) (k : ℕ) (step : NamedStep) (answer : Reply) (ps : List Pending) (reply : Reply)
    → refuses answer ≡ false → HandsOn a k answer ps reply b → told_notices answer ≡ map (notice_from k) ps
    → outcome a step answer ≡ with_world a (handed_each a.world k (told_notices answer)) → Leads a step reply b
hands_on a b k step answer ps reply tells row told leads =
    given a _ b step answer reply tells row
    (ap base (ap (λ (ns : List Notice). with_world a (handed_each a.world k ns)) (sym told) ∙ sym leads))

-- an answer that hands on refuses nothing
one_tells : (k : ℕ) (ps : List Pending) → refuses (one_handed k ps) ≡ false
one_tells k [] = refl
one_tells k (p ∷ ps) = refl

all_tell : (k : ℕ) (ps : List Pending) → refuses (all_handed k ps) ≡ false
all_tell k [] = refl
all_tell k (p ∷ ps) = refl

sweeps : (a b : State) (k : ℕ) (doomed : List ℕ) (reply : Reply) → a.doomed ≡ doomed → Sweeps a doomed reply b
    → Leads a (heap.Plain (plain.Sweep k)) reply b
sweeps a b k [] reply is row = given a a b (heap.Plain (plain.Sweep k)) replies.Nothing reply refl row refl
sweeps a b k (n ∷ ns) reply is row =
    given a _ b (heap.Plain (plain.Sweep k)) _ reply refl row
    (ap (λ (ds : List ℕ). base (record a {
      world = with_swept
          (with_heap a.world (record a.world.heap { objects = without (take 64 ds) a.world.heap.objects }))
          (min 64 (length (n ∷ ns)));
      doomed = drop 64 ds;
    })) (sym is))

selects : (a b : State) (reply : Reply) → Selects a reply b → Leads a (heap.Plain plain.Select) reply b
selects a b reply (inl row) =
    given a (move_begun a) b (heap.Plain plain.Select) (replies.Selected row.0) reply refl row.1 refl
selects a b reply (inr row) =
    inr (elim row.0 [ inl no_room ↦ ap refuses no_room | inr spent ↦ ap refuses spent ], row.1)

moves : (a b : State) (k : ℕ) (reply : Reply) → a.world.phase ≡ Moving → Moves a reply b
    → Leads a (heap.Plain (plain.MoveNext k)) reply b
moves a b k (replies.Moved n) phase row = inl (refl, ap base (row.1 ∙ sym (ticked_other a phase)))
moves a b k reply phase row =
    answered a a b (heap.Plain (plain.MoveNext k)) replies.Nothing reply refl row.0
    (ap base (row.1 ∙ sym (ticked_other a phase))) refl

ends_move : (a b : State) (reply : Reply) → EndsMove a reply b → Leads a (heap.Plain plain.EndMove) reply b
ends_move a b reply (inl row) = given a _ b (heap.Plain plain.EndMove) replies.Done reply refl row refl
ends_move a b reply (inr row) = inr (ap refuses row.0, row.1)

-- where a row of the heap leads: a mark's end says itself where
abbrev pub lead_of : State → NamedStep → Reply → State
lead_of a (heap.Plain plain.EndMark) reply = mark_ended a (doomed_at a) []
lead_of a step reply = outcome a step reply

-- where it counts, the phase
abbrev pub Needs : State → NamedStep → Type 0
Needs a (heap.Plain (plain.MoveNext k)) = a.world.phase ≡ Moving
Needs a step = Unit {0}

-- what the heap accepts leaves one base, or is refused after all
pub heap_base : (a b : State) (step : NamedStep) (reply : Reply) → Needs a step → HeapAccepts a step reply b
    → HasBase a (lead_of a step reply) reply b
heap_base a b (heap.Plain (plain.Load m d s i)) reply none row = loads a b m d s i _ reply row
heap_base a b (heap.Plain (plain.Copy m d s)) reply none row = copies a b m d s _ reply row
heap_base a b (heap.Plain (plain.Get m d s)) reply none row = gets a b m d s _ reply row
heap_base a b (heap.Unhook m s) reply none row = unhooks a b m s _ _ reply row
heap_base a b (heap.Hold m s) reply none row = holds a b m s _ reply row
heap_base a b (heap.Plain (plain.Begin now how)) reply none row =
    given_anew a (begun_state a (begun a.world (free_cells a.world.heap) now how (a.world.cycle + 1))) b
    (heap.Plain (plain.Begin now how)) true _ reply refl row refl
heap_base a b (heap.Plain (plain.Scan k)) reply none row = scans a b k reply row
heap_base a b (heap.Plain plain.EndMark) reply none row = inl (ap refuses row.answer, ap base row.after)
heap_base a b (heap.Plain (plain.ClearNext k)) reply none row = looks_at a b k _ reply row
heap_base a b (heap.Hand k) reply none row =
    let ps = pending_of a.world k in
    hands_on a b k (heap.Hand k) (one_handed k (take 1 ps)) (take 1 ps) reply (one_tells k (take 1 ps)) row
    (tells_one k ps) refl
heap_base a b (heap.Hands k max batch) reply none row =
    let ps = pending_of a.world k in
    hands_on a b k (heap.Hands k max batch) (all_handed k (batch_of max ps)) (batch_of max ps) reply
    (all_tell k (batch_of max ps)) row (tells_all k max ps) refl
heap_base a b (heap.Plain (plain.Sweep k)) reply none row = sweeps a b k a.doomed reply refl row
heap_base a b (heap.Plain plain.Select) reply none row = selects a b reply row
heap_base a b (heap.Plain (plain.MoveNext k)) reply none row =
    moves a b k reply none row
heap_base a b (heap.Plain plain.EndMove) reply none row = ends_move a b reply row
heap_base a b step reply none row = given a _ b step _ reply refl row refl

-- ---- rows of queues

-- a row of queues leads where its answer says
abbrev QueueLeads : State → Step → Reply → State → Type 0
QueueLeads a step reply b = HasBase a (with_world a (after_queues a.world step reply)) reply b

-- one that gives this answer
told : (a c b : State) (step : Step) (answer reply : Reply) → refuses answer ≡ false → Gives answer c reply b
    → c ≡ with_world a (after_queues a.world step answer) → QueueLeads a step reply b
told a c b step answer reply tells row leads =
    let led : Reply → State = λ (r : Reply). with_world a (after_queues a.world step r) in
    inl (
      ap refuses row.0 ∙ tells,
      ap base row.1 ∙ ap (λ (s : State). base (ticked s)) leads ∙ ap (λ (r : Reply). base (ticked (led r))) (sym row.0),
    )

puts_into : (a b : State) (who : Actor) (notice : Notice) (rest : List Notice) (again shut : Bool) (reply : Reply)
    → PutsInto again shut a who notice rest reply b → QueueLeads a (steps.Put who) reply b
puts_into a b who notice rest true shut reply row = told a a b (steps.Put who) replies.Already reply refl row refl
puts_into a b who notice rest false true reply row = told a a b (steps.Put who) replies.Closed reply refl row refl
puts_into a b who notice rest false false reply (inl added) = told a _ b (steps.Put who) _ reply refl added refl
puts_into a b who notice rest false false reply (inr wanted) = inr (ap refuses wanted.0, wanted.1)

puts : (a b : State) (who : Actor) (hand : List Notice) (reply : Reply) → Puts a who hand reply b
    → QueueLeads a (steps.Put who) reply b
puts a b who [] reply row = absurd row
puts a b who (notice ∷ rest) reply row = puts_into a b who notice rest _ _ reply row

puts_all : (a b : State) (who : Actor) (hand : List Notice) (reply : Reply) → PutsAll a who hand reply b
    → QueueLeads a (steps.Puts who) reply b
puts_all a b who [] reply row = absurd row
puts_all a b who (notice ∷ rest) reply row = told a _ b (steps.Puts who) (replies.Outs row.0) reply refl row.3 refl

-- a poll that takes none
polls_none : (a b : State) (step : Step) (shut : Bool) (reply : Reply)
    → after_queues a.world step replies.Closed ≡ a.world → after_queues a.world step replies.Empty ≡ a.world
    → Gives (if shut then replies.Closed else replies.Empty) a reply b → QueueLeads a step reply b
polls_none a b step true reply closed empty row =
    told a a b step replies.Closed reply refl row (ap (with_world a) (sym closed))
polls_none a b step false reply closed empty row =
    told a a b step replies.Empty reply refl row (ap (with_world a) (sym empty))

polls : (a b : State) (m q : ℕ) (step : Step) (tell : List ℕ → Reply) (taken : List Notice) (reply : Reply)
    → ((r : Reply) → after_queues a.world step r ≡ took a.world m q (told_taken r))
    → told_taken (tell (map object_of taken)) ≡ map object_of taken
    → refuses (tell (map object_of taken)) ≡ false → Polls a m q tell taken reply b → QueueLeads a step reply b
polls a b m q step tell [] reply takes told_so tells row =
    polls_none a b step (queue_at a.world q).closed reply (takes replies.Closed) (takes replies.Empty) row
polls a b m q step tell (notice ∷ rest) reply takes told_so tells row =
    let ns : List ℕ = map object_of (notice ∷ rest) in
    told a (with_world a (took a.world m q ns)) b step (tell ns) reply tells row
    (ap (with_world a) (sym (takes (tell ns) ∙ ap (took a.world m q) told_so)))

-- an answer to a poll of one refuses nothing
one_taken_tells : (stands : List Notice) → refuses (one_taken (map object_of (take 1 stands))) ≡ false
one_taken_tells [] = refl
one_taken_tells (notice ∷ rest) = refl

closes : (a b : State) (m q : ℕ) (shut : Bool) (reply : Reply) → Closes a q shut reply b
    → QueueLeads a (steps.Close m q) reply b
closes a b m q true reply row = told a a b (steps.Close m q) replies.Closed reply refl row refl
closes a b m q false reply row =
    told a (with_world a (closed_queue a.world q)) b (steps.Close m q) replies.Done reply refl row refl

-- what queues accept leaves one base, or is refused after all
queue_base : (a b : State) (step : Step) (reply : Reply) → QueuesAccept a step reply b → QueueLeads a step reply b
queue_base a b (steps.Put who) reply row = puts a b who (hand_of a.world who) reply row
queue_base a b (steps.Puts who) reply row = puts_all a b who (hand_of a.world who) reply row
queue_base a b (steps.Poll m q) reply row =
    let stands : List Notice = (queue_at a.world q).stands in
    polls a b m q (steps.Poll m q) one_taken (take 1 stands) reply (λ _. refl) (told_one stands)
    (one_taken_tells stands) row
queue_base a b (steps.Polls m q max) reply row =
    polls a b m q (steps.Polls m q max) replies.TookSome _ reply (λ _. refl) refl refl row
queue_base a b (steps.Close m q) reply row = closes a b m q (queue_at a.world q).closed reply row
queue_base a b step reply row = absurd row

-- ---- rows

-- a refusal leaves the hands
handed_refused : (w : World) (step : Step) (fault : Fault) → handed w step (replies.Refused fault) ≡ w
handed_refused w (steps.Unhook m s) fault = refl
handed_refused w (steps.Hand k) fault = refl
handed_refused w (steps.Hands k max) fault = refl
handed_refused w (steps.Adopt m d) fault = refl
handed_refused w (steps.Release who) fault = refl
handed_refused w step fault = refl

-- whichever answer refuses
handed_by_refusal : (w : World) (step : Step) (reply : Reply) → refuses reply ≡ true → handed w step reply ≡ w
handed_by_refusal w step (replies.Refused fault) is = handed_refused w step fault
handed_by_refusal w step reply is = absurd (false≢true is)

-- where a row leads that isn't refused
abbrev lead : State → Option NamedStep → Step → Reply → State
lead a None step reply = ticked (with_world a (after_queues a.world step reply))
lead a (Some asked) step reply = with_handed (ticked (lead_of a asked reply)) step reply

-- the state has the base of the one, or an answer refused and left the other
abbrev AtBase : State → State → Reply → State → Type 0
AtBase a l reply b = ((refuses reply ≡ false) × (base b ≡ base l)) ⊎ ((refuses reply ≡ true) × (b ≡ a))

-- what is left in the hands
with_hands : (a c b : State) (asked : NamedStep) (step : Step) (reply : Reply)
    → HasBase a (lead_of a asked reply) reply c → b ≡ with_handed c step reply
    → AtBase a (lead a (Some asked) step reply) reply b
with_hands a c b asked step reply (inl tells) left =
    inl (tells.0, ap base left ∙ ap (λ (s : State). with_handed s step reply) tells.1)
with_hands a c b asked step reply (inr refused) left =
    inr (
      refused.0,
      left ∙ ap (λ (s : State). with_handed s step reply) refused.1
          ∙ ap (with_world a) (handed_by_refusal a.world step reply refused.0),
    )

-- a step that asks its heap for this
asking : (a b : State) (asked : NamedStep) (step : Step) (reply : Reply) → Needs a asked
    → AcceptsAsking a (Some asked) step reply b → AtBase a (lead a (Some asked) step reply) reply b
asking a b asked step reply needs row =
    with_hands a row.0 b asked step reply (heap_base a row.0 asked reply needs row.1) row.2

-- where nothing is refused, the phase is as it counts
needed : (a : State) (step : NamedStep) → heap_refusal a step ≡ None → Needs a step
needed a (heap.Plain (plain.MoveNext k)) none = of_phase a (heap.Plain (plain.MoveNext k)) none
needed a step none = tt

adopts : (a b : State) (m d : ℕ) (hand : List Notice) (reply : Reply)
    → AcceptsAsking a (spending a.world (λ hold. heap.Adopt m d hold) hand) (steps.Adopt m d) reply b
    → AtBase a (lead a (spending a.world (λ hold. heap.Adopt m d hold) hand) (steps.Adopt m d) reply) reply b
adopts a b m d [] reply row = absurd row
adopts a b m d (notice ∷ rest) reply row =
    asking a b (heap.Adopt m d (hold_of a.world notice)) (steps.Adopt m d) reply tt row

releases : (a b : State) (who : Actor) (hand : List Notice) (reply : Reply)
    → AcceptsAsking a (spending a.world (λ hold. heap.Release hold) hand) (steps.Release who) reply b
    → AtBase a (lead a (spending a.world (λ hold. heap.Release hold) hand) (steps.Release who) reply) reply b
releases a b who [] reply row = absurd row
releases a b who (notice ∷ rest) reply row =
    asking a b (heap.Release (hold_of a.world notice)) (steps.Release who) reply tt row

-- a step that the world accepts
accepted : (a b : State) (step : Step) (reply : Reply) → refusal a step ≡ None
    → AcceptsAsking a (heap_step a.world step) step reply b
    → AtBase a (lead a (heap_step a.world step) step reply) reply b
accepted a b (steps.Plain step) reply none row =
    asking a b (heap.Plain step) (steps.Plain step) reply (needed a (heap.Plain step) none) row
accepted a b (steps.Unhook m s) reply none row = asking a b (heap.Unhook m s) (steps.Unhook m s) reply tt row
accepted a b (steps.Hand k) reply none row = asking a b (heap.Hand k) (steps.Hand k) reply tt row
accepted a b (steps.Hands k max) reply none row = asking a b (heap.Hands k max []) (steps.Hands k max) reply tt row
accepted a b (steps.Adopt m d) reply none row = adopts a b m d (hand_of a.world (Mutator m)) reply row
accepted a b (steps.Release who) reply none row = releases a b who (hand_of a.world who) reply row
accepted a b step reply none row = queue_base a b step reply row

-- the base that a row leaves
abbrev pub base_after : State → Row → State
base_after a row =
    if refuses row.reply then base a else base (lead a (heap_step a.world row.step) row.step row.reply)

-- whether the answer refuses tells which base is left
chosen : (refused : Bool) (a l b : State)
    → ((refused ≡ false) × (base b ≡ base l)) ⊎ ((refused ≡ true) × (b ≡ a))
    → base b ≡ (if refused then base a else base l)
chosen true a l b (inl tells) = absurd (true≢false tells.0)
chosen true a l b (inr same) = ap base same.1
chosen false a l b (inl tells) = tells.1
chosen false a l b (inr same) = absurd (false≢true same.0)

-- a step that the world refuses or accepts
answers : (a b : State) (row : Row) (fault : Option Fault) → refusal a row.step ≡ fault
    → IsAnswer a fault row.step row.reply b
    → AtBase a (lead a (heap_step a.world row.step) row.step row.reply) row.reply b
answers a b row (Some fault) is h = inr (ap refuses h.0, h.1)
answers a b row None is h = accepted a b row.step row.reply is h

-- a row leaves this base
pub one_base : (a b : State) (row : Row) → IsRow a row b → base b ≡ base_after a row
one_base a b row h =
    chosen (refuses row.reply) a (lead a (heap_step a.world row.step) row.step row.reply) b
    (answers a b row (refusal a row.step) refl h)

-- ---- which the base before tells

-- the base alone tells where a row of the heap leads
of_base : (a : State) (step : NamedStep) (reply : Reply)
    → base (lead_of a step reply) ≡ base (lead_of (base a) step reply)
of_base a (heap.Plain (plain.ClearNext k)) (replies.Cleared n) = refl
of_base a (heap.Plain (plain.ClearNext k)) (replies.Kept n) = refl
of_base a (heap.Plain (plain.ClearNext k)) (replies.Skipped n) = refl
of_base a (heap.Plain (plain.ClearNext k)) reply = refl
of_base a (heap.Plain (plain.Sweep k)) (replies.Swept count) = refl
of_base a (heap.Plain (plain.Sweep k)) reply = refl
of_base a step reply = refl

-- and where a row of the world leads
lead_base : (a : State) (asked : Option NamedStep) (step : Step) (reply : Reply)
    → base (lead a asked step reply) ≡ base (lead (base a) asked step reply)
lead_base a None step reply =
    ticked_base (with_world a (after_queues a.world step reply))
    (with_world (base a) (after_queues a.world step reply)) refl
lead_base a (Some asked) step reply =
    ap (λ (s : State). with_handed s step reply)
    (ticked_base (lead_of a asked reply) (lead_of (base a) asked reply) (of_base a asked reply))

-- of either kind
either : (refused : Bool) (a l k : State) → base l ≡ base k
    → (if refused then base a else base l) ≡ (if refused then base a else base k)
either true a l k same = refl
either false a l k same = same

-- the base before tells the base that a row leaves
pub base_tells : (a : State) (row : Row) → base_after a row ≡ base_after (base a) row
base_tells a row =
    either (refuses row.reply) a (lead a (heap_step a.world row.step) row.step row.reply)
    (lead (base a) (heap_step a.world row.step) row.step row.reply)
    (lead_base a (heap_step a.world row.step) row.step row.reply)

-- one row of two states of one base leaves two states of one base
pub bases_agree : (a b c d : State) (row : Row) → base a ≡ base c → IsRow a row b → IsRow c row d → base b ≡ base d
bases_agree a b c d row same first second =
    one_base a b row first ∙ base_tells a row ∙ ap (λ (s : State). base_after s row) same
    ∙ sym (base_tells c row) ∙ sym (one_base c d row second)
