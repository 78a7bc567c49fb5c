-- Each row of the abstract collector does to queues and hands what it says.
use Rattle.ref_base.proofs.Common.{arith, ◌≡◌, ℕ, ◌<◌, Bool, true, false, if◌then◌else◌, List, [], ◌∷◌, length, Option}
use Rattle.ref_base.proofs.Common.{Some, None, inl, inr, refl, sym, ap, ◌∙◌, subst, AllByRecursion, ltb-true, and_parts}
use Rattle.ref_base.proofs.Common.{has, slot_at, was_put, HandNotices, with_held, held_after, World, Notice, Pending}
use Rattle.ref_base.proofs.Common.{SameOthers, object_of, hand_of, queue_at, with_hand, NamedStep, hold_of, spending}
use Rattle.ref_base.proofs.Common.{handed, State, refusal, heap_refusal, is_mutator, is_actor, has_slot, with_handed}
use Rattle.ref_base.proofs.Common.{Gives, HeapAccepts, Accepts, AcceptsAsking, IsAnswer, IsRow, Unhooks, PutsInto, Puts}
use Rattle.ref_base.proofs.Common.{Polls, Closes, HandsOn, Fault, NoMemory, Own, Actor, Mutator, Worker, Step}
use Rattle.ref_base.proofs.Common.{Reply, Row, heap_step, rest_of, with_rest, with_held_rest}
use Rattle.ref_base.proofs.Common.{◌==◌, ◌++◌, map, take, drop, take-append-drop, eqb-true, notice_from, told_notices}
use Rattle.ref_base.proofs.Common.{taking, with_world, put_in, took, added_among, Become, TellsBatch, Done, PutsAll}
use Rattle.ref_base.proofs.Common.{one_taken, one_handed, all_handed, batch_of, pending_of}
use Rattle.std.specs.List.{list_all}
use Rattle.ref_base.specs.Outs.{Outs}
use Rattle.ref_base.specs.QueueRows.{given_by, filled_with, put_from_hand, those_for, only_if, taken_as}
use Rattle.ref_base.proofs.Common.{told_taken}
use Rattle.ref_base.specs.declared.out.Done.TheVariants.{Added}
use Rattle.ref_base.proofs.BatchParts.{all_added, all_take, all_batch, all_given, tells_one, tells_all, told_one}
use Rattle.ref_base.specs.Refusals.{is_worker, is_queue}
use Rattle.ref_base.proofs.CarryHeaps.{Anew, heap_carries}
use Rattle.ref_base.proofs.CarryLaws.{AnyCycle}
use Rattle.ref_base.proofs.OutcomeParts.{heap_others, heap_config}
use Rattle.ref_base.proofs.Places.{all_rest}
use Rattle.ref_base.proofs.RowForms.{asked_of, unless_passes}
use Rattle.ref_base.proofs.SoundWorlds.{QueueBelow, ObjectBelow, PendingBelow, IsBelow, HasHand, IsSound, below_lasts}
use Rattle.ref_base.proofs.SoundWorlds.{IsOwn, NoticesBelow}
use Rattle.ref_base.proofs.SoundWorlds.{names_below, sound_again, registered_below, held_below}
use Rattle.ref_base.proofs.QueueLaws.{as_held, held_of, rest_held, queue_change_by, no_queue_change, Goes, IsStill}
use Rattle.ref_base.proofs.QueueLaws.{same, stays, sets_hand, goes_after, put_goes, close_goes, poll_goes, MayStand}
use Rattle.ref_base.proofs.QueueLaws.{become_may, QueueChange, change_by}
use Rattle.ref_base.specs.declared.heap_step.HeapStep.TheVariants as heap
use Rattle.ref_base.specs.declared.plain_step.PlainStep.TheVariants as plain
use Rattle.ref_base.specs.declared.step.Step.TheVariants as steps
use Rattle.ref_base.specs.declared.reply.Reply.TheVariants as replies

-- ---- the rows of a heap

-- a row of a heap keeps hands and queues as they are, and leaves a sound world where there was one
pub record Keeps (a b : World) : Type 0 where
  pub others : SameOthers a b
  pub sound : IsSound a → IsSound b

-- what is made is registered with a queue of the configuration
abbrev pub IsRegistered : State → NamedStep → Type 0
IsRegistered a (heap.Plain (plain.Refer m strength d s q k)) = QueueBelow a.world.heap.config.queues q
IsRegistered a step = Unit {0}

-- so what a row makes anew names no queue that isn't there
below_anew : (a : State) (step : NamedStep) (reply : Reply) → IsRegistered a step → IsSound a.world
    → Anew (ObjectBelow a.world.heap.config.queues) (IsBelow a.world.heap.config.queues) AnyCycle a step reply
below_anew a (heap.Plain (plain.New m d k)) reply is sound = λ told. tt
below_anew a (heap.Plain (plain.Refer m strength d s q k)) reply is sound = λ told. is
below_anew a (heap.Plain (plain.Begin now how)) reply is sound = λ told. tt
below_anew a (heap.Plain (plain.ClearNext k)) reply is sound =
    λ n q told there. subst (QueueBelow a.world.heap.config.queues) there (registered_below a.world n sound)
below_anew a step reply is sound = tt

pub heap_keeps : (a b : State) (step : NamedStep) (reply : Reply) → IsRegistered a step
    → HeapAccepts a step reply b → Keeps a.world b.world
heap_keeps a b step reply is row =
    let count : ℕ = a.world.heap.config.queues in
    let others = heap_others a b step reply row in
    record {
      others = others;
      sound = λ sound.
          sound_again a.world b.world others (heap_config a b step reply row) sound
          (heap_carries (ObjectBelow count) (IsBelow count) AnyCycle (below_lasts count) a b step reply
          (below_anew a step reply is sound) (names_below a.world sound) row);
    }

-- ---- refusals

refused_is_still : (step : Step) (fault : Fault) → IsStill step (replies.Refused fault)
refused_is_still (steps.Plain (plain.New m d k)) fault hands q = refl
refused_is_still step fault hands q = refl

refused_goes : (a b : State) (step : Step) (fault : Fault) (reply : Reply) → IsSound a.world
    → (reply ≡ replies.Refused fault) × (b ≡ a) → Goes a.world b.world step reply
refused_goes a b step fault reply sound refused = grind (arith, stays a.world a.world step, refused_is_still step fault)

-- ---- queues

-- the row goes where its answer does, in the world of the state that it leaves
given : (a c b : State) (step : Step) (answer reply : Reply) → Gives answer c reply b
    → Goes a.world c.world step answer → Goes a.world b.world step reply
given a c b step answer reply gives goes = grind arith

-- a put of the first notice, into its own queue
added_goes : (w : World) (who : Actor) (position : ℕ) (notice : Notice) (rest : List Notice) → IsSound w
    → HasHand w who → hand_of w who ≡ notice ∷ rest → was_put object_of (queue_at w notice.queue) notice ≡ false
    → (queue_at w notice.queue).closed ≡ false
    → Goes w (put_in w who (Added ∷ [])) (steps.Put who) (replies.Added position)
added_goes w who position notice rest sound has hand fresh open_yet =
    let below : NoticesBelow w.heap.config.queues (notice ∷ rest) =
    subst (NoticesBelow w.heap.config.queues) hand (sound.hands_below who) in
    let within : notice.queue < length w.queues = rw sound.queues below.0 in
    put_goes w who Added [] (steps.Put who) (replies.Added position) sound has
    (subst (λ (h : List Notice). MayStand w (added_among h (Added ∷ []))) (sym hand) (within, fresh, open_yet, tt))
    (λ _ _. refl)

put_into_goes : (a b : State) (who : Actor) (notice : Notice) (rest : List Notice) (again shut : Bool) (reply : Reply)
    → IsSound a.world → HasHand a.world who → hand_of a.world who ≡ notice ∷ rest
    → was_put object_of (queue_at a.world notice.queue) notice ≡ again → (queue_at a.world notice.queue).closed ≡ shut
    → PutsInto again shut a who notice rest reply b → Goes a.world b.world (steps.Put who) reply
put_into_goes a b who notice rest true shut reply sound has hand again_is shut_is gives = search (given, stays)
put_into_goes a b who notice rest false true reply sound has hand again_is shut_is gives = search (given, stays)
put_into_goes a b who notice rest false false reply sound has hand again_is shut_is gives =
    elim gives [
      | inl added ↦ given a _ b (steps.Put who) (replies.Added _) reply added
          (added_goes a.world who _ notice rest sound has hand again_is shut_is)
      | inr refused ↦ refused_goes a b (steps.Put who) NoMemory reply sound refused
    ]

put_hand_goes : (a b : State) (who : Actor) (hand : List Notice) (reply : Reply) → IsSound a.world
    → HasHand a.world who → hand_of a.world who ≡ hand → Puts a who hand reply b
    → Goes a.world b.world (steps.Put who) reply
put_hand_goes a b who [] reply sound has hand puts = absurd puts
put_hand_goes a b who (notice ∷ rest) reply sound has hand puts =
    put_into_goes a b who notice rest _ _ reply sound has hand refl refl puts

pub all_own_in : (q : ℕ) (notices : List Notice) → list_all (λ (n : Notice). n.queue == q) notices ≡ true
    → AllByRecursion (IsOwn q) notices
all_own_in q [] all = tt
all_own_in q (notice ∷ rest) all = grind (arith, and_parts, eqb-true, all_own_in q rest)

-- a put of all notices, into the queue of the first
some_goes : (w : World) (who : Actor) (notice : Notice) (rest : List Notice) (outs : Outs) → IsSound w → HasHand w who
    → hand_of w who ≡ notice ∷ rest → list_all (λ (n : Notice). n.queue == notice.queue) rest ≡ true
    → TellsBatch object_of (λ (n : Notice). n.queue) (queue_at w notice.queue) (notice ∷ rest) outs
    → (ds : List Done) → outs.done ≡ ds → Goes w (put_in w who ds) (steps.Puts who) (replies.Outs outs)
some_goes w who notice rest outs sound has hand own tells [] is = absurd (rw is at tells.3)
some_goes w who notice rest outs sound has hand own tells (d ∷ ds) is =
    let q : ℕ = notice.queue in
    let below : NoticesBelow w.heap.config.queues (notice ∷ rest) =
    subst (NoticesBelow w.heap.config.queues) hand (sound.hands_below who) in
    let within : q < length w.queues = rw sound.queues below.0 in
    let become : Become object_of (λ (n : Notice). n.queue) (queue_at w q) (notice ∷ rest) (d ∷ ds) =
    subst (λ es. Become object_of (λ (n : Notice). n.queue) (queue_at w q) (notice ∷ rest) es) is tells.2 in
    let may : MayStand w (added_among (notice ∷ rest) (d ∷ ds)) =
    become_may w q (notice ∷ rest) (d ∷ ds) within
    (all_added (IsOwn q) (notice ∷ rest) (d ∷ ds) (refl, all_own_in q rest own)) become in
    put_goes w who d ds (steps.Puts who) (replies.Outs outs) sound has
    (subst (λ (h : List Notice). MayStand w (added_among h (d ∷ ds))) (sym hand) may)
    (λ hands k. ap
    (λ es. (put_from_hand hands who es, those_for k (added_among (hands who) es), only_if false [], false)) is)

puts_goes : (a b : State) (who : Actor) (hand : List Notice) (reply : Reply) → IsSound a.world
    → HasHand a.world who → hand_of a.world who ≡ hand → PutsAll a who hand reply b
    → Goes a.world b.world (steps.Puts who) reply
puts_goes a b who [] reply sound has hand puts = absurd puts
puts_goes a b who (notice ∷ rest) reply sound has hand puts =
    given a (with_world a (put_in a.world who puts.0.done)) b (steps.Puts who) (replies.Outs puts.0) reply puts.3
    (some_goes a.world who notice rest puts.0 sound has hand puts.1 puts.2 puts.0.done refl)

nothing_taken : (w : World) (step : Step) (shut : Bool) → IsSound w
    → IsStill step replies.Closed → IsStill step replies.Empty
    → Goes w w step (if shut then replies.Closed else replies.Empty)
nothing_taken w step true sound closed empty = stays w w step replies.Closed closed (same w) sound
nothing_taken w step false sound closed empty = stays w w step replies.Empty empty (same w) sound

-- the row takes what it tells from queue q into the mutator's hand
abbrev TakesFrom : ℕ → ℕ → Step → Type 0
TakesFrom m q step =
    (reply : Reply) (hands : HandNotices) (k : ℕ) → change_by hands k step reply
    ≡ (filled_with hands (Mutator m) (taken_as q reply), [], only_if (q == k) (told_taken reply), false)

-- a poll of so many at most
polls_goes : (a b : State) (m q max : ℕ) (step : Step) (tell : List ℕ → Reply) (taken : List Notice) (reply : Reply)
    → IsSound a.world → m < length a.world.mutator_hands → q < length a.world.queues
    → take max (queue_at a.world q).stands ≡ taken → IsStill step replies.Closed → IsStill step replies.Empty
    → TakesFrom m q step → told_taken (tell (map object_of taken)) ≡ map object_of taken
    → Polls a m q tell taken reply b → Goes a.world b.world step reply
polls_goes a b m q max step tell [] reply sound has within first closed empty takes told gives =
    given a a b step _ reply gives (nothing_taken a.world step (queue_at a.world q).closed sound closed empty)
polls_goes a b m q max step tell (notice ∷ more) reply sound has within first closed empty takes told gives =
    let stands : List Notice = (queue_at a.world q).stands in
    let ns : List ℕ = notice.object ∷ map object_of more in
    given a (with_world a (took a.world m q ns)) b step (tell ns) reply gives
    (poll_goes a.world m q notice more (drop max stands) step (tell ns) sound has within
    (sym (take-append-drop max stands) ∙ ap (λ (xs : List Notice). xs ++ drop max stands) first)
    (λ hands k. takes (tell ns) hands k
    ∙ ap (λ ms. (
      filled_with hands (Mutator m) (map (λ n. record { object = n; queue = q }) ms),
      [],
      only_if (q == k) ms,
      false,
    )) told))

close_any_goes : (a b : State) (m q : ℕ) (shut : Bool) (reply : Reply) → IsSound a.world → q < length a.world.queues
    → (queue_at a.world q).closed ≡ shut → Closes a q shut reply b → Goes a.world b.world (steps.Close m q) reply
close_any_goes a b m q true reply sound within is gives = search (given, stays)
close_any_goes a b m q false reply sound within is gives =
    given a _ b (steps.Close m q) replies.Done reply gives (close_goes a.world m q sound within is)

-- ---- hands

-- the row goes where its answer does, in the world that it leaves
handled : (a c b : State) (step : Step) (answer reply : Reply) → reply ≡ answer
    → b ≡ with_handed c step reply → Goes a.world (handed c.world step answer) step answer
    → Goes a.world b.world step reply
handled a c b step answer reply is left goes = grind arith

-- a step that has nothing to do with hands
quiet : (a b : State) (asked : NamedStep) (step : Step) (reply : Reply) → IsSound a.world → IsRegistered a asked
    → AcceptsAsking a (Some asked) step reply b → IsStill step reply → ((w : World) → handed w step reply ≡ w)
    → Goes a.world b.world step reply
quiet a b asked step reply sound is row stands same_hands =
    grind (arith, heap_keeps, stays a.world row.0.world step reply stands)

same_has : (a b : World) (who : Actor) → SameOthers a b → HasHand a who → HasHand b who
same_has a b (Mutator m) others has = rw others.mutators has
same_has a b (Worker k) others has = rw others.workers has

same_queues : (a b : World) → IsSound a → Keeps a b → b.heap.config.queues ≡ a.heap.config.queues
same_queues a b sound keeps = sym (keeps.sound sound).queues ∙ ap length keeps.others.queues ∙ sound.queues

-- what the row gives into a hand
record GivesInto (step : Step) (answer : Reply) (who : Actor) : Type 0 where
  pub into : (w : World) → handed w step answer ≡ taking w who (told_notices answer)
  pub held : (hands : HandNotices) → held_after hands step answer ≡ filled_with hands who (given_by answer)
  pub still : (hands : HandNotices) (q : ℕ) → queue_change_by hands q step answer ≡ no_queue_change

filled : (a c : State) (who : Actor) (notices : List Notice) (step : Step) (answer : Reply) → IsSound a.world
    → Keeps a.world c.world → HasHand a.world who → NoticesBelow a.world.heap.config.queues notices
    → GivesInto step answer who → told_notices answer ≡ notices → Goes a.world (taking c.world who notices) step answer
filled a c who [] step answer sound keeps has below gives told =
    let held : (hands : HandNotices) → held_after hands step answer ≡ hands =
    λ hands. gives.held hands
    ∙ ap (λ (ns : List Notice). filled_with hands who (as_held ns)) told in
    stays a.world c.world step answer (λ hands q. rw (held hands) (ap (λ (c : QueueChange). (hands, c.0, c.1, c.2))
    (gives.still hands q)))
    keeps.others (keeps.sound sound)
filled a c who (notice ∷ rest) step answer sound keeps has below gives told =
    let now : NoticesBelow c.world.heap.config.queues (notice ∷ rest) =
    subst (λ count. NoticesBelow count (notice ∷ rest)) (sym (same_queues a.world c.world sound keeps)) below in
    goes_after a.world c.world (with_hand c.world who (notice ∷ rest)) step answer keeps.others
    (sets_hand c.world who (notice ∷ rest) step answer (keeps.sound sound)
    (same_has a.world c.world who keeps.others has) now
    (gives.held (held_of c.world) ∙ ap (λ (ns : List Notice). filled_with (held_of c.world) who (as_held ns)) told)
    gives.still)

-- notices are given into a hand, if any are
gives_notices : (a c b : State) (who : Actor) (notices : List Notice) (step : Step) (answer reply : Reply)
    → IsSound a.world → Keeps a.world c.world → HasHand a.world who
    → NoticesBelow a.world.heap.config.queues notices → GivesInto step answer who → told_notices answer ≡ notices
    → reply ≡ answer → b ≡ with_handed c step reply → Goes a.world b.world step reply
gives_notices a c b who notices step answer reply sound keeps has below gives told is left =
    handled a c b step answer reply is left
    (subst (λ (w : World). Goes a.world w step answer)
    (sym (gives.into c.world ∙ ap (taking c.world who) told))
    (filled a c who notices step answer sound keeps has below gives told))

-- a hand's first notice is spent
spends : (a c b : State) (who : Actor) (step : Step) (answer reply : Reply) → IsSound a.world → Keeps a.world c.world
    → HasHand a.world who → reply ≡ answer → b ≡ with_handed c step reply
    → handed c.world step answer ≡ with_rest c.world who
    → ((hands : HandNotices) → held_after hands step answer ≡ with_held_rest hands who)
    → ((hands : HandNotices) (q : ℕ) → queue_change_by hands q step answer ≡ no_queue_change)
    → Goes a.world b.world step reply
spends a c b who step answer reply sound keeps has is left shorter held stands =
    let rest : List Notice = rest_of (hand_of c.world who) in
    let now = keeps.sound sound in
    handled a c b step answer reply is left
    (subst (λ (w : World). Goes a.world w step answer) (sym shorter)
    (goes_after a.world c.world (with_rest c.world who) step answer keeps.others
    (sets_hand c.world who rest step answer now (same_has a.world c.world who keeps.others has)
    (all_rest (IsBelow c.world.heap.config.queues) (hand_of c.world who) (now.hands_below who))
    (held (held_of c.world) ∙ ap (with_held (held_of c.world) who) (rest_held (hand_of c.world who))) stands)))

gives_into : (step : Step) (answer : Reply) (who : Actor)
    → ((w : World) → handed w step answer ≡ taking w who (told_notices answer))
    → ((hands : HandNotices) → held_after hands step answer ≡ filled_with hands who (given_by answer))
    → ((hands : HandNotices) (q : ℕ) → queue_change_by hands q step answer ≡ no_queue_change)
    → GivesInto step answer who
gives_into step answer who into held still = record { into = into; held = held; still = still }

unhook_goes : (a c b : State) (m s : ℕ) (held queue : Option ℕ) (reply : Reply) → IsSound a.world
    → Keeps a.world c.world → m < length a.world.mutator_hands → QueueBelow a.world.heap.config.queues queue
    → Unhooks a m s held queue reply c → b ≡ with_handed c (steps.Unhook m s) reply
    → Goes a.world b.world (steps.Unhook m s) reply
unhook_goes a c b m s None queue reply sound keeps has below gives left =
    gives_notices a c b (Mutator m) [] (steps.Unhook m s) replies.Nothing reply sound keeps has tt
    (gives_into (steps.Unhook m s) replies.Nothing (Mutator m) (λ _. refl) (λ _. refl) (λ _ _. refl)) refl gives.0 left
unhook_goes a c b m s (Some n) None reply sound keeps has below gives left =
    gives_notices a c b (Mutator m) [] (steps.Unhook m s) replies.Nothing reply sound keeps has tt
    (gives_into (steps.Unhook m s) replies.Nothing (Mutator m) (λ _. refl) (λ _. refl) (λ _ _. refl)) refl gives.0 left
unhook_goes a c b m s (Some n) (Some q) reply sound keeps has below gives left =
    gives_notices a c b (Mutator m) (record { object = n; queue = q; cause = Own } ∷ []) (steps.Unhook m s)
    (replies.Notice n q Own) reply sound keeps has (below, tt)
    (gives_into (steps.Unhook m s) (replies.Notice n q Own) (Mutator m) (λ _. refl) (λ _. refl) (λ _ _. refl)) refl
    gives.0 left

hand_goes : (a c b : State) (k : ℕ) (step : Step) (answer : Reply) (ps : List Pending) (reply : Reply)
    → IsSound a.world → Keeps a.world c.world → k < length a.world.worker_hands
    → AllByRecursion (PendingBelow a.world.heap.config.queues) ps → GivesInto step answer (Worker k)
    → told_notices answer ≡ map (notice_from k) ps → HandsOn a k answer ps reply c → b ≡ with_handed c step reply
    → Goes a.world b.world step reply
hand_goes a c b k step answer ps reply sound keeps has below gives told row left =
    gives_notices a c b (Worker k) (map (notice_from k) ps) step answer reply sound keeps has
    (all_given (IsBelow a.world.heap.config.queues) k ps below) gives told row.0 left

adopt_goes : (a b : State) (m d : ℕ) (hand : List Notice) (reply : Reply) → IsSound a.world
    → m < length a.world.mutator_hands
    → AcceptsAsking a (spending a.world (λ hold. heap.Adopt m d hold) hand) (steps.Adopt m d) reply b
    → Goes a.world b.world (steps.Adopt m d) reply
adopt_goes a b m d [] reply sound has row = absurd row
adopt_goes a b m d (notice ∷ rest) reply sound has row =
    let keeps = heap_keeps a row.0 (heap.Adopt m d (hold_of a.world notice)) reply tt row.1 in
    spends a row.0 b (Mutator m) (steps.Adopt m d) (replies.Object notice.object) reply sound keeps has row.1.0 row.2
    refl (λ _. refl) (λ _ _. refl)

release_goes : (a b : State) (who : Actor) (hand : List Notice) (reply : Reply) → IsSound a.world → HasHand a.world who
    → AcceptsAsking a (spending a.world (λ hold. heap.Release hold) hand) (steps.Release who) reply b
    → Goes a.world b.world (steps.Release who) reply
release_goes a b who [] reply sound has row = absurd row
release_goes a b who (notice ∷ rest) reply sound has row =
    let keeps = heap_keeps a row.0 (heap.Release (hold_of a.world notice)) reply tt row.1 in
    spends a row.0 b who (steps.Release who) replies.Done reply sound keeps has row.1.0 row.2 refl (λ _. refl)
    (λ _ _. refl)

-- ---- who and what is there

-- a step that isn't refused names a queue of the configuration
pub registered : (a : State) (step : NamedStep) → heap_refusal a step ≡ None → IsRegistered a step
registered a (heap.Plain (plain.Refer m strength d s q k)) none = grind arith
registered a step none = tt

pub mutator_within : (w : World) (m : ℕ) → IsSound w → is_mutator w.heap m ≡ true → m < length w.mutator_hands
mutator_within w m sound is = rw sound.mutator_hands (ltb-true m w.heap.config.mutators is)

pub worker_within : (w : World) (k : ℕ) → IsSound w → is_worker w.heap k ≡ true → k < length w.worker_hands
worker_within w k sound is = rw sound.worker_hands (ltb-true k w.heap.config.workers is)

pub actor_has : (w : World) (who : Actor) → IsSound w → is_actor w.heap who ≡ true → HasHand w who
actor_has w (Mutator m) sound is = mutator_within w m sound is
actor_has w (Worker k) sound is = worker_within w k sound is

pub queue_within : (w : World) (q : ℕ) → IsSound w → is_queue w.heap q ≡ true → q < length w.queues
queue_within w q sound is = rw sound.queues (ltb-true q w.heap.config.queues is)

-- ---- rows

accepted_goes : (a b : State) (step : Step) (reply : Reply) → IsSound a.world → refusal a step ≡ None
    → Accepts a step reply b → Goes a.world b.world step reply
accepted_goes a b (steps.Plain (plain.Refer m strength d s q k)) reply sound h row = search (quiet, registered)
accepted_goes a b (steps.Unhook m s) reply sound h row =
    let first = unless_passes (has_slot a.world.heap m s) _ _ h in
    let both = and_parts (is_mutator a.world.heap m) _ first.0 in
    unhook_goes a row.0 b m s _ _ reply sound (heap_keeps a row.0 (heap.Unhook m s) reply tt row.1)
    (mutator_within a.world m sound both.0) (held_below a.world (slot_at a.world.heap m s) sound) row.1 row.2
accepted_goes a b (steps.Put who) reply sound h gives = grind (arith, put_hand_goes)
accepted_goes a b (steps.Puts who) reply sound h gives =
    let first = unless_passes (is_actor a.world.heap who) _ _ h in
    puts_goes a b who (hand_of a.world who) reply sound (actor_has a.world who sound first.0) refl gives
accepted_goes a b (steps.Poll m q) reply sound h gives =
    let first = unless_passes (is_mutator a.world.heap m) _ _ h in
    let second = unless_passes (is_queue a.world.heap q) _ _ first.1 in
    let stands = (queue_at a.world q).stands in
    polls_goes a b m q 1 (steps.Poll m q) one_taken (take 1 stands) reply sound
    (mutator_within a.world m sound first.0) (queue_within a.world q sound second.0) refl (λ _ _. refl) (λ _ _. refl)
    (λ _ _ _. refl) (told_one stands) gives
accepted_goes a b (steps.Polls m q max) reply sound h gives =
    let first = unless_passes (is_mutator a.world.heap m) _ _ h in
    let second = unless_passes (is_queue a.world.heap q) _ _ first.1 in
    let stands = (queue_at a.world q).stands in
    polls_goes a b m q max (steps.Polls m q max) replies.TookSome (take max stands) reply sound
    (mutator_within a.world m sound first.0) (queue_within a.world q sound second.0) refl (λ _ _. refl) (λ _ _. refl)
    (λ _ _ _. refl) refl gives
accepted_goes a b (steps.Adopt m d) reply sound h row = grind (arith, adopt_goes)
accepted_goes a b (steps.Release who) reply sound h row = grind (arith, release_goes)
accepted_goes a b (steps.Close m q) reply sound h gives = grind (arith, close_any_goes a b m q)
accepted_goes a b (steps.Hand k) reply sound h row =
    let first = unless_passes (is_worker a.world.heap k) _ _ h in
    let ps = pending_of a.world k in
    let answer = one_handed k (take 1 ps) in
    hand_goes a row.0 b k (steps.Hand k) answer (take 1 ps) reply sound
    (heap_keeps a row.0 (heap.Hand k) reply tt row.1) (worker_within a.world k sound first.0)
    (all_take (PendingBelow a.world.heap.config.queues) 1 ps (sound.pending_below k))
    (gives_into (steps.Hand k) answer (Worker k) (λ _. refl) (λ _. refl) (λ _ _. refl)) (tells_one k ps) row.1 row.2
accepted_goes a b (steps.Hands k max) reply sound h row =
    let first = unless_passes (is_worker a.world.heap k) _ _ h in
    let ps = pending_of a.world k in
    let answer = all_handed k (batch_of max ps) in
    hand_goes a row.0 b k (steps.Hands k max) answer (batch_of max ps) reply sound
    (heap_keeps a row.0 (heap.Hands k max []) reply tt row.1) (worker_within a.world k sound first.0)
    (all_batch (PendingBelow a.world.heap.config.queues) max ps (sound.pending_below k))
    (gives_into (steps.Hands k max) answer (Worker k) (λ _. refl) (λ _. refl) (λ _ _. refl)) (tells_all k max ps) row.1
    row.2
accepted_goes a b step reply sound h row =
    quiet a b (asked_of (heap_step a.world step)) step reply sound tt row (λ _ _. refl) (λ _. refl)

answer_goes : (a b : State) (step : Step) (reply : Reply) (fault : Option Fault) → IsSound a.world
    → refusal a step ≡ fault → IsAnswer a fault step reply b → Goes a.world b.world step reply
answer_goes a b step reply (Some fault) sound is refused = refused_goes a b step fault reply sound refused
answer_goes a b step reply None sound is accepts = accepted_goes a b step reply sound is accepts

pub row_goes : (a : State) (row : Row) (b : State) → IsSound a.world → IsRow a row b
    → Goes a.world b.world row.step row.reply
row_goes a row b sound h = answer_goes a b row.step row.reply (refusal a row.step) sound refl h
