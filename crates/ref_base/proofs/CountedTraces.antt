-- In every legal trace each notice that is out is a hold that the heap counts, row by row.
use Rattle.ref_base.proofs.Common.{arith, ◌≡◌, ℕ, ◌<◌, Bool, true, false, List, [], ◌∷◌, length, Option, Some, None}
use Rattle.ref_base.proofs.Common.{refl, sym, ap, ◌∙◌, subst, and_parts, one_fewer, World, Notice, Pending}
use Rattle.ref_base.proofs.Common.{SameOthers, hand_of, queue_at, NamedStep, hold_of, spending, handed}
use Rattle.ref_base.proofs.Common.{State, first_state, Gives, with_handed, AcceptsAsking, Unhooks, HandsOn, PutsInto}
use Rattle.ref_base.proofs.Common.{Puts, Polls, Closes, closed_queue, with_world, Accepts, IsAnswer, IsRow, IsRun}
use Rattle.ref_base.proofs.Common.{unless_full, refusal, is_mutator, has_slot, AreCounted, holds_after, Config, Actor}
use Rattle.ref_base.proofs.Common.{Mutator, Worker, Own, Fault, Step, Reply, Row, heap_step, with_rest}
use Rattle.ref_base.proofs.Common.{inl, inr, ◌++◌, map, take, drop, take-append-drop, AllByRecursion, object_of}
use Rattle.ref_base.proofs.Common.{notice_from, told_notices, taking, put_in, took, PutsAll, one_taken, one_handed}
use Rattle.ref_base.proofs.Common.{all_handed, batch_of, fits, pending_of, is_actor}
use Rattle.ref_base.specs.CountedHolds.{more_of_each}
use Rattle.ref_base.specs.Refusals.{is_queue, is_worker}
use Rattle.ref_base.specs.declared.out.Done.TheVariants.{Added}
use Rattle.ref_base.proofs.BatchParts.{tells_one, tells_all}
use Rattle.ref_base.proofs.RowLaws.{worker_within, queue_within}
use Rattle.ref_base.proofs.CountedRows.{heap_holds}
use Rattle.ref_base.proofs.CountedWorlds.{counted_given, counted_spent, counted_put, counted_took, counted_closed}
use Rattle.ref_base.proofs.CountedWorlds.{first_counted}
use Rattle.ref_base.proofs.RowForms.{asked_of, ticked_world, unless_passes}
use Rattle.ref_base.proofs.RowLaws.{heap_keeps, registered, IsRegistered, mutator_within, actor_has}
use Rattle.ref_base.proofs.SameOthers.{same_hand}
use Rattle.ref_base.proofs.SoundWorlds.{HasHand, IsSound, first_sound}
use Rattle.ref_base.proofs.LegalQueues.{run_sound}
use Rattle.ref_base.proofs.RunFronts.{legal_holds}
use Rattle.ref_base.specs.declared.heap_step.HeapStep.TheVariants as heap
use Rattle.ref_base.specs.declared.plain_step.PlainStep.TheVariants as plain
use Rattle.ref_base.specs.declared.step.Step.TheVariants as steps
use Rattle.ref_base.specs.declared.reply.Reply.TheVariants as replies

-- ---- the forms of a row

in_world : (b : State) (w : World) → b.world ≡ w → AreCounted w → AreCounted b.world
in_world b w is counted = subst AreCounted (sym is) counted

given : (c b : State) (answer reply : Reply) → Gives answer c reply b → AreCounted c.world → AreCounted b.world
given c b answer reply gives counted =
    in_world b c.world (ap (λ (s : State). s.world) gives.1 ∙ ticked_world c) counted

-- a row of the heap that has nothing to do with hands and holds
quiet : (a b : State) (asked : NamedStep) (step : Step) (reply : Reply) → IsRegistered a asked → AreCounted a.world
    → AcceptsAsking a (Some asked) step reply b
    → ((hs : List ℕ) → holds_after hs asked reply ≡ hs) → ((w : World) → handed w step reply ≡ w) → AreCounted b.world
quiet a b asked step reply is counted row still same_hands = grind (arith, heap_keeps, heap_holds)

-- one that gives notices into an empty hand, if it gives any
gives_notices : (a c b : State) (who : Actor) (notices : List Notice) (asked : NamedStep) (step : Step)
    (answer reply : Reply) → SameOthers a.world c.world → HasHand a.world who → hand_of a.world who ≡ []
    → c.world.heap.holds ≡ holds_after a.world.heap.holds asked reply → reply ≡ answer
    → holds_after a.world.heap.holds asked answer ≡ more_of_each a.world.heap.holds notices
    → handed c.world step answer ≡ taking c.world who notices → b ≡ with_handed c step reply
    → AreCounted a.world → AreCounted b.world
gives_notices a c b who notices asked step answer reply others has free held is more into left counted =
    grind (arith, counted_given)

-- one that spends a hand's first notice
spends : (a c b : State) (who : Actor) (notice : Notice) (rest : List Notice) (asked : NamedStep) (step : Step)
    (answer reply : Reply) → SameOthers a.world c.world → HasHand a.world who → hand_of a.world who ≡ notice ∷ rest
    → c.world.heap.holds ≡ holds_after a.world.heap.holds asked reply → reply ≡ answer
    → holds_after a.world.heap.holds asked answer ≡ one_fewer a.world.heap.holds notice.object
    → handed c.world step answer ≡ with_rest c.world who → b ≡ with_handed c step reply
    → AreCounted a.world → AreCounted b.world
spends a c b who notice rest asked step answer reply others has full held is fewer spends_it left counted =
    grind (arith, counted_spent, same_hand)

-- ---- hands

unhooks : (a c b : State) (m s : ℕ) (held queue : Option ℕ) (reply : Reply) → SameOthers a.world c.world
    → m < length a.world.mutator_hands → hand_of a.world (Mutator m) ≡ []
    → c.world.heap.holds ≡ holds_after a.world.heap.holds (heap.Unhook m s) reply
    → Unhooks a m s held queue reply c → b ≡ with_handed c (steps.Unhook m s) reply → AreCounted a.world
    → AreCounted b.world
unhooks a c b m s None queue reply others has free holds row left counted =
    gives_notices a c b (Mutator m) [] (heap.Unhook m s) (steps.Unhook m s) replies.Nothing reply others has free holds
    row.0 refl refl left counted
unhooks a c b m s (Some n) None reply others has free holds row left counted =
    gives_notices a c b (Mutator m) [] (heap.Unhook m s) (steps.Unhook m s) replies.Nothing reply others has free holds
    row.0 refl refl left counted
unhooks a c b m s (Some n) (Some q) reply others has free holds row left counted =
    gives_notices a c b (Mutator m) (record { object = n; queue = q; cause = Own } ∷ []) (heap.Unhook m s)
    (steps.Unhook m s) (replies.Notice n q Own) reply others has free holds row.0 refl refl left counted

hands : (a c b : State) (k : ℕ) (asked : NamedStep) (step : Step) (answer : Reply) (ps : List Pending) (reply : Reply)
    → SameOthers a.world c.world → k < length a.world.worker_hands → hand_of a.world (Worker k) ≡ []
    → c.world.heap.holds ≡ holds_after a.world.heap.holds asked reply
    → holds_after a.world.heap.holds asked answer ≡ more_of_each a.world.heap.holds (told_notices answer)
    → handed c.world step answer ≡ taking c.world (Worker k) (told_notices answer)
    → told_notices answer ≡ map (notice_from k) ps → HandsOn a k answer ps reply c → b ≡ with_handed c step reply
    → AreCounted a.world → AreCounted b.world
hands a c b k asked step answer ps reply others has free holds more into tells row left counted =
    gives_notices a c b (Worker k) (map (notice_from k) ps) asked step answer reply others has free holds row.0
    (more ∙ ap (more_of_each a.world.heap.holds) tells) (into ∙ ap (taking c.world (Worker k)) tells) left counted

adopts : (a b : State) (m d : ℕ) (hand : List Notice) (reply : Reply) → m < length a.world.mutator_hands
    → hand_of a.world (Mutator m) ≡ hand
    → AcceptsAsking a (spending a.world (λ hold. heap.Adopt m d hold) hand) (steps.Adopt m d) reply b
    → AreCounted a.world → AreCounted b.world
adopts a b m d [] reply has is row counted = absurd row
adopts a b m d (notice ∷ rest) reply has is row counted =
    let asked : NamedStep = heap.Adopt m d (hold_of a.world notice) in
    let keeps = heap_keeps a row.0 asked reply tt row.1 in
    spends a row.0 b (Mutator m) notice rest asked (steps.Adopt m d) (replies.Object notice.object) reply keeps.others
    has is (heap_holds a row.0 asked reply row.1) row.1.0 refl refl row.2 counted

releases : (a b : State) (who : Actor) (hand : List Notice) (reply : Reply) → HasHand a.world who
    → hand_of a.world who ≡ hand
    → AcceptsAsking a (spending a.world (λ hold. heap.Release hold) hand) (steps.Release who) reply b
    → AreCounted a.world → AreCounted b.world
releases a b who [] reply has is row counted = absurd row
releases a b who (notice ∷ rest) reply has is row counted =
    let asked : NamedStep = heap.Release (hold_of a.world notice) in
    let keeps = heap_keeps a row.0 asked reply tt row.1 in
    spends a row.0 b who notice rest asked (steps.Release who) replies.Done reply keeps.others has is
    (heap_holds a row.0 asked reply row.1) row.1.0 refl refl row.2 counted

-- ---- queues

-- a hand names queues that are there
hand_within : (w : World) (who : Actor) → IsSound w
    → AllByRecursion (λ (x : Notice). x.queue < length w.queues) (hand_of w who)
hand_within w who sound =
    subst (λ count. AllByRecursion (λ (x : Notice). x.queue < count) (hand_of w who)) (sym sound.queues)
    (sound.hands_below who)

puts_into : (a b : State) (who : Actor) (notice : Notice) (rest : List Notice) (again shut : Bool) (reply : Reply)
    → IsSound a.world → HasHand a.world who → PutsInto again shut a who notice rest reply b → AreCounted a.world
    → AreCounted b.world
puts_into a b who notice rest true shut reply sound has row counted = given a b replies.Already reply row counted
puts_into a b who notice rest false true reply sound has row counted = given a b replies.Closed reply row counted
puts_into a b who notice rest false false reply sound has row counted =
    elim row [
      | inl added ↦
          given (with_world a (put_in a.world who (Added ∷ []))) b _ reply added
          (counted_put a.world who (Added ∷ []) has (hand_within a.world who sound) counted)
      | inr refused ↦ in_world b a.world (ap (λ (s : State). s.world) refused.1) counted
    ]

puts : (a b : State) (who : Actor) (hand : List Notice) (reply : Reply) → IsSound a.world → HasHand a.world who
    → Puts a who hand reply b → AreCounted a.world → AreCounted b.world
puts a b who [] reply sound has row counted = absurd row
puts a b who (notice ∷ rest) reply sound has row counted =
    puts_into a b who notice rest _ _ reply sound has row counted

puts_all : (a b : State) (who : Actor) (hand : List Notice) (reply : Reply) → IsSound a.world → HasHand a.world who
    → PutsAll a who hand reply b → AreCounted a.world → AreCounted b.world
puts_all a b who [] reply sound has row counted = absurd row
puts_all a b who (notice ∷ rest) reply sound has row counted =
    given (with_world a (put_in a.world who row.0.done)) b (replies.Outs row.0) reply row.3
    (counted_put a.world who row.0.done has (hand_within a.world who sound) counted)

polls : (a b : State) (m q max : ℕ) (tell : List ℕ → Reply) (taken : List Notice) (reply : Reply)
    → m < length a.world.mutator_hands → hand_of a.world (Mutator m) ≡ [] → q < length a.world.queues
    → take max (queue_at a.world q).stands ≡ taken → Polls a m q tell taken reply b → AreCounted a.world
    → AreCounted b.world
polls a b m q max tell [] reply has free within is row counted = given a b _ reply row counted
polls a b m q max tell (notice ∷ rest) reply has free within is row counted =
    let stands : List Notice = (queue_at a.world q).stands in
    let ns : List ℕ = map object_of (notice ∷ rest) in
    given (with_world a (took a.world m q ns)) b (tell ns) reply row
    (counted_took a.world m q (notice ∷ rest) (drop max stands) has free within
    (sym (take-append-drop max stands) ∙ ap (λ (xs : List Notice). xs ++ drop max stands) is) counted)

closes : (a b : State) (q : ℕ) (shut : Bool) (reply : Reply) → q < length a.world.queues → Closes a q shut reply b
    → AreCounted a.world → AreCounted b.world
closes a b q true reply within row counted = given a b _ reply row counted
closes a b q false reply within row counted =
    given (with_world a (closed_queue a.world q)) b replies.Done reply row (counted_closed a.world q within counted)

-- ---- rows

pub empty_hand : (hand : List Notice) (later : Option Fault) → unless_full hand later ≡ None → hand ≡ []
empty_hand [] later none = refl
empty_hand (notice ∷ rest) later none = absurd cc

accepted : (a b : State) (step : Step) (reply : Reply) → IsSound a.world → AreCounted a.world → refusal a step ≡ None
    → Accepts a step reply b → AreCounted b.world
accepted a b (steps.Plain (plain.Refer m strength d s q k)) reply sound counted h row = search (quiet, registered)
accepted a b (steps.Unhook m s) reply sound counted h row =
    let first = unless_passes (has_slot a.world.heap m s) _ _ h in
    let both = and_parts (is_mutator a.world.heap m) _ first.0 in
    let keeps = heap_keeps a row.0 (heap.Unhook m s) reply tt row.1 in
    unhooks a row.0 b m s _ _ reply keeps.others (mutator_within a.world m sound both.0)
    (empty_hand (hand_of a.world (Mutator m)) _ first.1) (heap_holds a row.0 (heap.Unhook m s) reply row.1) row.1 row.2
    counted
accepted a b (steps.Put who) reply sound counted h row = grind (arith, puts, actor_has a.world who sound)
accepted a b (steps.Puts who) reply sound counted h row =
    let first = unless_passes (is_actor a.world.heap who) _ _ h in
    puts_all a b who (hand_of a.world who) reply sound (actor_has a.world who sound first.0) row counted
accepted a b (steps.Poll m q) reply sound counted h row =
    let first = unless_passes (is_mutator a.world.heap m) _ _ h in
    let second = unless_passes (is_queue a.world.heap q) _ _ first.1 in
    polls a b m q 1 one_taken (take 1 (queue_at a.world q).stands) reply (mutator_within a.world m sound first.0)
    (empty_hand (hand_of a.world (Mutator m)) None second.1) (queue_within a.world q sound second.0) refl row counted
accepted a b (steps.Polls m q max) reply sound counted h row =
    let first = unless_passes (is_mutator a.world.heap m) _ _ h in
    let second = unless_passes (is_queue a.world.heap q) _ _ first.1 in
    let third = unless_passes (fits max (length (hand_of a.world (Mutator m)))) _ _ second.1 in
    polls a b m q max replies.TookSome (take max (queue_at a.world q).stands) reply
    (mutator_within a.world m sound first.0) (empty_hand (hand_of a.world (Mutator m)) None third.1)
    (queue_within a.world q sound second.0) refl row counted
accepted a b (steps.Adopt m d) reply sound counted h row = grind (arith, adopts)
accepted a b (steps.Release who) reply sound counted h row = grind (arith, releases, actor_has a.world who sound)
accepted a b (steps.Close m q) reply sound counted h row = grind (arith, closes)
accepted a b (steps.Hand k) reply sound counted h row =
    let first = unless_passes (is_worker a.world.heap k) _ _ h in
    let ps = pending_of a.world k in
    let keeps = heap_keeps a row.0 (heap.Hand k) reply tt row.1 in
    hands a row.0 b k (heap.Hand k) (steps.Hand k) (one_handed k (take 1 ps)) (take 1 ps) reply keeps.others
    (worker_within a.world k sound first.0) (empty_hand (hand_of a.world (Worker k)) _ first.1)
    (heap_holds a row.0 (heap.Hand k) reply row.1) refl refl (tells_one k ps) row.1 row.2 counted
accepted a b (steps.Hands k max) reply sound counted h row =
    let first = unless_passes (is_worker a.world.heap k) _ _ h in
    let second = unless_passes (fits max (length (hand_of a.world (Worker k)))) _ _ first.1 in
    let ps = pending_of a.world k in
    let asked : NamedStep = heap.Hands k max [] in
    let keeps = heap_keeps a row.0 asked reply tt row.1 in
    hands a row.0 b k asked (steps.Hands k max) (all_handed k (batch_of max ps)) (batch_of max ps) reply keeps.others
    (worker_within a.world k sound first.0) (empty_hand (hand_of a.world (Worker k)) _ second.1)
    (heap_holds a row.0 asked reply row.1) refl refl (tells_all k max ps) row.1 row.2 counted
accepted a b step reply sound counted h row =
    quiet a b (asked_of (heap_step a.world step)) step reply tt counted row (λ _. refl) (λ _. refl)

answered : (a b : State) (step : Step) (reply : Reply) (fault : Option Fault) → IsSound a.world → AreCounted a.world
    → refusal a step ≡ fault → IsAnswer a fault step reply b → AreCounted b.world
answered a b step reply (Some fault) sound counted is row =
    in_world b a.world (ap (λ (s : State). s.world) row.1) counted
answered a b step reply None sound counted is row = accepted a b step reply sound counted is row

-- a row keeps it
pub row_counted : (a : State) (row : Row) (b : State) → IsSound a.world → AreCounted a.world → IsRow a row b
    → AreCounted b.world
row_counted a row b sound counted h = answered a b row.step row.reply (refusal a row.step) sound counted refl h

-- and so it holds after every legal trace
pub legal_counted : (config : Config) (rows : List Row) (b : State) → IsRun (first_state config) rows b
    → AreCounted b.world
legal_counted config rows b run =
    legal_holds config (λ past a. AreCounted a.world)
    (λ past a row c before counted h.
    row_counted a row c (run_sound (first_state config) past a (first_sound config) before) counted h)
    (first_counted config) rows b run
