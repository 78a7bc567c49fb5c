-- What a row of the abstract collector does to each queue and each hand: what the row says that it does.
use Rattle.ref_base.proofs.Common.{◌≡◌, ℕ, ◌<◌, Bool, true, false, if◌then◌else◌, ◌==◌, List, [], ◌∷◌, length, map}
use Rattle.ref_base.proofs.Common.{refl, sym, ap, ◌∙◌, subst, arith, slice_index_or, slice_set, AllByRecursion, eq-eqb}
use Rattle.ref_base.proofs.Common.{ne_eqb, Lists, new_queue, was_put, with_parcel, HandNotices, with_held}
use Rattle.ref_base.proofs.Common.{rest_of, held_after, World, Notice, SameOthers, object_of, hand_of}
use Rattle.ref_base.proofs.Common.{queue_at, with_hand, with_queue, took, put_in, Actor, Mutator}
use Rattle.ref_base.proofs.Common.{Worker, Step, Reply}
use Rattle.ref_base.specs.QueueRows.{HandNotice, put_by, taken_by, closed_by, those_for, put_from_hand, filled_with}
use Rattle.ref_base.specs.QueueRows.{only_if}
use Rattle.ref_base.proofs.Common.{Become, added_among, not_added, Done, ◌++◌, standing, notices_of, without_notices}
use Rattle.ref_base.proofs.Common.{get_or-set_same, length-set, cases_Bool, inl, inr}
use Rattle.ref_base.proofs.BatchParts.{all_left, map-added, map-left}
use Rattle.ref_base.specs.declared.out.Done.TheVariants.{Added, Already, Closed, Refused}
use Rattle.ref_base.proofs.Places.{set_at, all_push}
use Rattle.ref_base.proofs.QueueChanges.{QueueChanges, changes_nothing, changes_added, changes_more}
use Rattle.ref_base.proofs.QueueChanges.{changes_took_some, changes_closed}
use Rattle.ref_base.proofs.SoundWorlds.{NoticesBelow, IsBelow, IsOwn, HasHand, IsSound, sound_hand, sound_queue}
use Rattle.ref_base.specs.declared.step.Step.TheVariants as steps
use Rattle.ref_base.specs.declared.reply.Reply.TheVariants as replies

-- the hands as rows see them
abbrev pub as_held : List Notice → List HandNotice
as_held = map (λ notice. record { object = notice.object; queue = notice.queue })

abbrev pub held_of : World → HandNotices
held_of w who = as_held (hand_of w who)

-- the rest of a hand as rows see it
pub rest_held : (hand : List Notice) → rest_of (as_held hand) ≡ as_held (rest_of hand)
rest_held [] = refl
rest_held (notice ∷ rest) = refl

-- the row leaves a sound world, and changes the hands and the queues as it says
pub record Goes (a b : World) (step : Step) (reply : Reply) : Type 0 where
  pub sound : IsSound b
  pub held : (who : Actor) → held_of b who ≡ held_after (held_of a) step reply who
  pub queue : (q : ℕ) → QueueChanges object_of (queue_at a q) (queue_at b q)
      (put_by (held_of a) q step reply) (taken_by q step reply) (closed_by q step reply)

-- ---- rows that touch neither hands nor queues

-- the hands after a row, and what it puts into queue q, takes from it, and whether it closes it
abbrev pub Change : Type 0
Change = HandNotices × List ℕ × List ℕ × Bool

abbrev pub change_by : HandNotices → ℕ → Step → Reply → Change
change_by hands q step reply =
    (held_after hands step reply, put_by hands q step reply, taken_by q step reply, closed_by q step reply)

abbrev no_change : HandNotices → Change
no_change hands = (hands, [], [], false)

abbrev pub IsStill : Step → Reply → Type 0
IsStill step reply = (hands : HandNotices) (q : ℕ) → change_by hands q step reply ≡ no_change hands

pub same : (w : World) → SameOthers w w
same w = record { mutators = refl; workers = refl; queues = refl }

same_held : (a b : World) → SameOthers a b → (who : Actor) → held_of b who ≡ held_of a who
same_held a b is (Mutator m) = ap (λ (hs : List (List Notice)). as_held (slice_index_or hs m [])) is.mutators
same_held a b is (Worker k) = ap (λ (hs : List (List Notice)). as_held (slice_index_or hs k [])) is.workers

pub stays : (a b : World) (step : Step) (reply : Reply) → IsStill step reply → SameOthers a b → IsSound b
    → Goes a b step reply
stays a b step reply still is sound = record {
  sound = sound;
  held = λ who. same_held a b is who ∙ ap (λ (c : Change). c.0 who) (sym (still (held_of a) 0));
  queue = λ q. rw is.queues
      (subst (λ (c : Change). QueueChanges object_of (queue_at a q) (queue_at a q) c.1 c.2 c.3)
      (sym (still (held_of a) q)) (changes_nothing object_of (queue_at a q)));
}

-- ---- rows that set a hand

hand_at_set : (hands : List (List Notice)) (m : ℕ) (hand : List Notice) → m < length hands → (k : ℕ)
    → as_held (slice_index_or (slice_set hands m hand) k [])
    ≡ (if k == m then as_held hand else as_held (slice_index_or hands k []))
hand_at_set hands m hand within =
    set_at (λ k h. as_held h ≡ (if k == m then as_held hand else as_held (slice_index_or hands k [])))
    hands m hand (λ _. []) within (rw (eq-eqb m m refl) refl) (λ k isnt. rw (ne_eqb k m isnt) refl)

hand_set : (w : World) (who : Actor) (hand : List Notice) → HasHand w who → (other : Actor)
    → held_of (with_hand w who hand) other ≡ with_held (held_of w) who (as_held hand) other
hand_set w (Mutator m) hand has (Mutator k) = hand_at_set w.mutator_hands m hand has k
hand_set w (Mutator m) hand has (Worker k) = refl
hand_set w (Worker m) hand has (Mutator k) = refl
hand_set w (Worker m) hand has (Worker k) = hand_at_set w.worker_hands m hand has k

hand_keeps_queues : (w : World) (who : Actor) (hand : List Notice) → (with_hand w who hand).queues ≡ w.queues
hand_keeps_queues w (Mutator m) hand = refl
hand_keeps_queues w (Worker k) hand = refl

-- what a row puts into queue q, takes from it, and whether it closes it
abbrev pub QueueChange : Type 0
QueueChange = List ℕ × List ℕ × Bool

abbrev pub queue_change_by : HandNotices → ℕ → Step → Reply → QueueChange
queue_change_by hands q step reply = (put_by hands q step reply, taken_by q step reply, closed_by q step reply)

abbrev pub no_queue_change : QueueChange
no_queue_change = ([], [], false)

-- a row that sets a hand and changes no queue
pub sets_hand : (w : World) (who : Actor) (hand : List Notice) (step : Step) (reply : Reply) → IsSound w
    → HasHand w who → NoticesBelow w.heap.config.queues hand
    → held_after (held_of w) step reply ≡ with_held (held_of w) who (as_held hand)
    → ((hands : HandNotices) (q : ℕ) → queue_change_by hands q step reply ≡ no_queue_change)
    → Goes w (with_hand w who hand) step reply
sets_hand w who hand step reply sound has below held still = record {
  sound = sound_hand w who hand sound has below;
  held = λ other. hand_set w who hand has other ∙ ap (λ (hs : HandNotices). hs other) (sym held);
  queue = λ q. rw (hand_keeps_queues w who hand)
      (subst (λ (c : QueueChange). QueueChanges object_of (queue_at w q) (queue_at w q) c.0 c.1 c.2)
      (sym (still (held_of w) q)) (changes_nothing object_of (queue_at w q)));
}

-- ---- what comes before or after and touches neither hands nor queues

pub goes_after : (a mid b : World) (step : Step) (reply : Reply) → SameOthers a mid → Goes mid b step reply
    → Goes a b step reply
goes_after a mid b step reply is goes = grind arith

-- ---- rows that change a queue

-- what a change of queue q does to each queue
queue_set : (queues : List (Lists Notice)) (q : ℕ) (new : Lists Notice) (ins outs : ℕ → List ℕ) (closes : ℕ → Bool)
    → q < length queues → QueueChanges object_of (slice_index_or queues q (new_queue q)) new (ins q) (outs q) (closes q)
    → ((k : ℕ) → (q == k) ≡ false
    → QueueChanges object_of (slice_index_or queues k (new_queue k)) (slice_index_or queues k (new_queue k))
    (ins k) (outs k) (closes k)) → (k : ℕ) → QueueChanges object_of (slice_index_or queues k (new_queue k))
    (slice_index_or (slice_set queues q new) k (new_queue k)) (ins k) (outs k) (closes k)
queue_set queues q new ins outs closes within here others =
    set_at (λ k l. QueueChanges object_of (slice_index_or queues k (new_queue k)) l (ins k) (outs k) (closes k))
    queues q new new_queue within here (λ k isnt. others k (ne_eqb q k (λ is. isnt (sym is))))

-- ---- notices that come to stand

abbrev with_standing : World → Notice → World
with_standing w notice = with_queue w notice.queue (with_parcel (queue_at w notice.queue) notice)

-- these may be put in one after the other: each is for a queue that is there and open, and that never had it
abbrev pub MayStand : World → List Notice → Type 0
MayStand w [] = Unit {0}
MayStand w (notice ∷ rest) =
    (notice.queue < length w.queues) × (was_put object_of (queue_at w notice.queue) notice ≡ false)
    × ((queue_at w notice.queue).closed ≡ false) × MayStand (with_standing w notice) rest

-- what a put of a hand's notices into their queue tells is that those that were added may stand
pub become_may : (w : World) (q : ℕ) (hand : List Notice) (ds : List Done) → q < length w.queues
    → AllByRecursion (IsOwn q) (added_among hand ds)
    → Become object_of (λ notice. notice.queue) (queue_at w q) hand ds → MayStand w (added_among hand ds)
become_may w q hand [] within own become = tt
become_may w q [] (d ∷ ds) within own become = tt
become_may w q (notice ∷ hand) (Added ∷ ds) within own become =
    let there : notice.queue < length w.queues = subst (λ r. r < length w.queues) (sym own.0) within in
    let more : Lists Notice = with_parcel (queue_at w notice.queue) notice in
    let set : queue_at (with_standing w notice) q ≡ with_parcel (queue_at w q) notice =
    subst (λ r. queue_at (with_standing w notice) r ≡ with_parcel (queue_at w r) notice) own.0
    (get_or-set_same w.queues notice.queue more (new_queue notice.queue) there) in
    let longer : q < length (with_standing w notice).queues = rw (length-set w.queues notice.queue more) within in (
      there,
      subst (λ r. was_put object_of (queue_at w r) notice ≡ false) (sym own.0) become.0.1,
      subst (λ r. (queue_at w r).closed ≡ false) (sym own.0) become.0.2,
      become_may (with_standing w notice) q hand ds longer own.1
          (subst (λ (l : Lists Notice). Become object_of (λ n. n.queue) l hand ds) (sym set) become.1),
    )
become_may w q (notice ∷ hand) (Already ∷ ds) within own become = become_may w q hand ds within own become.1
become_may w q (notice ∷ hand) (Closed ∷ ds) within own become = become_may w q hand ds within own become.1
become_may w q (notice ∷ hand) (Refused fault ∷ ds) within own become = become_may w q hand ds within own become.1

-- a world but for its queues
abbrev but_queues : World → World
but_queues w = record w { queues = [] }

-- these came to stand in their queues, and nothing else changed
record Stood (v w : World) (notices : List Notice) : Type 0 where
  pub sound : IsSound w
  pub same : but_queues w ≡ but_queues v
  pub queue : (q : ℕ) → QueueChanges object_of (queue_at v q) (queue_at w q) (those_for q (as_held notices)) [] false

stood_one : (w : World) (notice : Notice) → IsSound w → notice.queue < length w.queues
    → was_put object_of (queue_at w notice.queue) notice ≡ false → (queue_at w notice.queue).closed ≡ false
    → Stood w (with_standing w notice) (notice ∷ [])
stood_one w notice sound within fresh open_yet =
    let q : ℕ = notice.queue in
    let lists : Lists Notice = queue_at w q in
    record {
      sound = sound_queue w q (with_parcel lists notice) sound within
          (all_push (IsOwn q) lists.stands notice (sound.own q) refl);
      same = refl;
      queue = λ k. queue_set w.queues q (with_parcel lists notice)
          (λ j. if q == j then notice.object ∷ [] else []) (λ _. []) (λ _. false) within
          (rw (eq-eqb q q refl) (changes_added object_of lists notice fresh open_yet))
          (λ j isnt. rw isnt (changes_nothing object_of (queue_at w j))) k;
    }

those_for-first : (q : ℕ) (notice : Notice) (rest : List Notice)
    → those_for q (as_held (notice ∷ rest)) ≡ those_for q (as_held (notice ∷ [])) ++ those_for q (as_held rest)
those_for-first q notice rest =
    elim (cases_Bool (notice.queue == q)) [ inl is ↦ simp is refl | inr isnt ↦ simp isnt refl ]

standing_stood : (w : World) (notices : List Notice) → IsSound w → MayStand w notices
    → Stood w (standing w notices) notices
standing_stood w [] sound may =
    record { sound = sound; same = refl; queue = λ q. changes_nothing object_of (queue_at w q) }
standing_stood w (notice ∷ rest) sound may =
    let one = stood_one w notice sound may.0 may.1 may.2 in
    let more = standing_stood (with_standing w notice) rest one.sound may.3 in
    record {
      sound = more.sound;
      same = more.same ∙ one.same;
      queue = λ q. subst (λ ns. QueueChanges object_of (queue_at w q) (queue_at (standing w (notice ∷ rest)) q) ns []
          false)
          (sym (those_for-first q notice rest))
          (changes_more object_of (queue_at w q) (queue_at (with_standing w notice) q)
          (queue_at (standing w (notice ∷ rest)) q) (those_for q (as_held (notice ∷ []))) (those_for q (as_held rest))
          [] []
          false false (one.queue q) (more.queue q));
    }

same_has : (v w : World) (who : Actor) → but_queues w ≡ but_queues v → HasHand v who → HasHand w who
same_has v w (Mutator m) is has = subst (λ (u : World). m < length u.mutator_hands) (sym is) has
same_has v w (Worker k) is has = subst (λ (u : World). k < length u.worker_hands) (sym is) has

held_same : (v w : World) (who : Actor) → but_queues w ≡ but_queues v → held_of w who ≡ held_of v who
held_same v w (Mutator m) is = ap (λ (u : World). as_held (slice_index_or u.mutator_hands m [])) is
held_same v w (Worker k) is = ap (λ (u : World). as_held (slice_index_or u.worker_hands k [])) is

-- the row puts the hand's notices in, where that became of them
abbrev pub IsPut : Actor → List Done → Step → Reply → Type 0
IsPut who ds step reply =
    (hands : HandNotices) (q : ℕ) → change_by hands q step reply
    ≡ (put_from_hand hands who ds, those_for q (added_among (hands who) ds), [], false)

pub put_goes : (w : World) (who : Actor) (d : Done) (ds : List Done) (step : Step) (reply : Reply) → IsSound w
    → HasHand w who → MayStand w (added_among (hand_of w who) (d ∷ ds)) → IsPut who (d ∷ ds) step reply
    → Goes w (put_in w who (d ∷ ds)) step reply
put_goes w who d ds step reply sound has may puts =
    let hand : List Notice = hand_of w who in
    let added : List Notice = added_among hand (d ∷ ds) in
    let left : List Notice = not_added hand (d ∷ ds) in
    let stood = standing_stood w added sound may in
    let mid : World = standing w added in
    let has_mid = same_has w mid who stood.same has in
    let below : NoticesBelow mid.heap.config.queues left =
    subst (λ (u : World). NoticesBelow u.heap.config.queues left) (sym stood.same)
    (all_left (IsBelow w.heap.config.queues) hand (d ∷ ds) (sound.hands_below who)) in
    record {
      sound = sound_hand mid who left stood.sound has_mid below;
      held = λ other.
          hand_set mid who left has_mid other
          ∙ rw (
            held_same w mid other stood.same,
            map-left {Y = HandNotice} (λ n. record {
              object = n.object;
              queue =
                  n.queue;
            }) hand (d ∷ ds),
          ) refl
          ∙ sym (ap (λ (c : Change). c.0 other) (puts (held_of w) 0));
      queue = λ q. rw (hand_keeps_queues mid who left)
          (subst (λ (c : QueueChange). QueueChanges object_of (queue_at w q) (queue_at mid q) c.0 c.1 c.2)
          (sym (ap (λ (c : Change). (c.1, c.2, c.3)) (puts (held_of w) q)))
          (subst (λ ns. QueueChanges object_of (queue_at w q) (queue_at mid q) (those_for q ns) [] false)
          (map-added {Y = HandNotice} (λ n. record { object = n.object; queue = n.queue }) hand (d ∷ ds)) (stood.queue
          q)));
    }

pub close_goes : (w : World) (m q : ℕ) → IsSound w → q < length w.queues → (queue_at w q).closed ≡ false
    → Goes w (with_queue w q (record (queue_at w q) { closed = true })) (steps.Close m q) replies.Done
close_goes w m q sound within open_yet =
    let new : Lists Notice = record (queue_at w q) { closed = true } in
    record {
      sound = sound_queue w q new sound within (sound.own q);
      held = λ who. refl;
      queue = queue_set w.queues q new (λ _. []) (λ _. []) (λ k. q == k) within
          (changes_closed object_of (queue_at w q) (q == q) (rw (open_yet, eq-eqb q q refl) refl))
          (λ k isnt. rw isnt (changes_nothing object_of (queue_at w k)));
    }

-- those that stand first are what is taken out
pub took_front : (front rest : List Notice)
    → (notices_of (front ++ rest) (map object_of front) ≡ front)
    × (without_notices (front ++ rest) (map object_of front) ≡ rest)
took_front [] rest = (refl, refl)
took_front (notice ∷ front) rest = grind (arith, eq-eqb, took_front front rest)

-- for queue q, they are held as they were taken
held_as_taken : (q : ℕ) (front : List Notice) → AllByRecursion (IsOwn q) front
    → map (λ n. record { object = n; queue = q }) (map object_of front) ≡ as_held front
held_as_taken q [] all = refl
held_as_taken q (notice ∷ front) all = rw (all.0, held_as_taken q front all.1) refl

-- a row that takes these from queue q into the mutator's hand
abbrev pub IsPoll : ℕ → ℕ → List ℕ → Step → Reply → Type 0
IsPoll m q ns step reply =
    (hands : HandNotices) (k : ℕ) → change_by hands k step reply
    ≡ (filled_with hands (Mutator m) (map (λ n. record { object = n; queue = q }) ns), [], only_if (q == k) ns, false)

all_front : (P : Notice → Type 0) (front rest : List Notice) → AllByRecursion P (front ++ rest)
    → AllByRecursion P front × AllByRecursion P rest
all_front P [] rest all = (tt, all)
all_front P (notice ∷ front) rest all =
    let more = all_front P front rest all.1 in ((all.0, more.0), more.1)

all_within : (w : World) (q : ℕ) (notices : List Notice) → q < w.heap.config.queues
    → AllByRecursion (IsOwn q) notices → NoticesBelow w.heap.config.queues notices
all_within w q [] within all = tt
all_within w q (notice ∷ rest) within all = (rw all.0 within, all_within w q rest within all.1)

pub poll_goes : (w : World) (m q : ℕ) (notice : Notice) (more rest : List Notice) (step : Step) (reply : Reply)
    → IsSound w → m < length w.mutator_hands → q < length w.queues
    → (queue_at w q).stands ≡ (notice ∷ more) ++ rest → IsPoll m q (map object_of (notice ∷ more)) step reply
    → Goes w (took w m q (map object_of (notice ∷ more))) step reply
poll_goes w m q notice more rest step reply sound has within first polls =
    let front : List Notice = notice ∷ more in
    let lists : Lists Notice = queue_at w q in
    let new : Lists Notice = record lists { taken = lists.taken ++ map object_of front; stands = rest } in
    let all = all_front (IsOwn q) front rest (subst (AllByRecursion (IsOwn q)) first (sound.own q)) in
    let bound : q < w.heap.config.queues = rw (sym sound.queues) within in
    let shorter = sound_queue w q new sound within all.1 in
    let goes : Goes w (with_hand (with_queue w q new) (Mutator m) front) step reply = record {
      sound = sound_hand (with_queue w q new) (Mutator m) front shorter has (all_within w q front bound all.0);
      held = λ who.
          hand_set (with_queue w q new) (Mutator m) front has who
          ∙ ap (λ hs. with_held (held_of w) (Mutator m) hs who) (sym (held_as_taken q front all.0))
          ∙ sym (ap (λ (c : Change). c.0 who) (polls (held_of w) 0));
      queue = λ k.
          subst (λ (c : QueueChange). QueueChanges object_of (queue_at w k) (slice_index_or (slice_set w.queues q new)
          k (new_queue k)) c.0 c.1 c.2)
          (sym (ap (λ (c : Change). (c.1, c.2, c.3)) (polls (held_of w) k)))
          (queue_set w.queues q new (λ _. []) (λ j. only_if (q == j) (map object_of front)) (λ _. false) within
          (rw (eq-eqb q q refl) (changes_took_some object_of lists front rest first))
          (λ j isnt. rw isnt (changes_nothing object_of (queue_at w j))) k);
    } in
    let found = took_front front rest in
    let is : (notices_of lists.stands (map object_of front) ≡ front)
    × (without_notices lists.stands (map object_of front) ≡ rest) =
    subst (λ (ns : List Notice). (notices_of ns (map object_of front) ≡ front)
    × (without_notices ns (map object_of front) ≡ rest)) (sym first) found in
    rw (is.0, is.1) goes
