-- Each row of a collector of any profile keeps hands and queues right: there is one for each number, each notice is a
-- hold, a queue has each reference once, and a hand has few notices, for one queue.
use Rattle.ref_base.proofs.Common.{arith, ◌≡◌, ℕ, zero, suc, ◌+◌, ◌<◌, ◌≤◌, ◌==◌, Bool, true, false, if◌then◌else◌}
use Rattle.ref_base.proofs.Common.{List, [], ◌∷◌, ◌++◌, map, length, Option, Some, None, refl, sym, ap, ◌∙◌, subst, inl}
use Rattle.ref_base.proofs.Common.{inr, cases_Bool, AllByRecursion, State, World, Notice, hand_of, queue_at, has}
use Rattle.ref_base.proofs.Common.{AreCounted, NamedStep, Lists, enqueued, object_of, new_queue, with_queue, with_hand}
use Rattle.ref_base.proofs.Common.{standing, put_in, took, taken_out, closed_queue, after_queues, handed, taking}
use Rattle.ref_base.proofs.Common.{with_rest, told_notices, told_object, is_done, told_dones, told_taken, is_some}
use Rattle.ref_base.proofs.Common.{ticked, with_world, refusal, heap_step, added_among, not_added, rest_of, with_parcel}
use Rattle.ref_base.proofs.Common.{nat_eq, false≢true, tally, in_hands, in_queues, Polls, one_taken, is_mutator, fits}
use Rattle.ref_base.proofs.Common.{shown, mark_ended, doomed_at, with_handed, Object, first_world, without_notices}
use Rattle.ref_base.proofs.Common.{told_cycle, is_selected, IsRow, get_or-set_same, slice_index_or, eqb-true, or_cases}
use Rattle.ref_base.proofs.Common.{is_new_clear, ◌⊎◌, length-set}
use Rattle.std.specs.List.{IsDistinct}
use Rattle.ref_base.specs.Members.{AreDistinct}
use Rattle.ref_base.specs.Refusals.{is_queue, plain_refusal}
use Rattle.ref_base.specs.declared.actor.Actor.{Actor}
use Rattle.ref_base.specs.declared.actor.Actor.TheVariants.{Mutator, Worker}
use Rattle.ref_base.specs.declared.config.Config.{Config}
use Rattle.ref_base.specs.declared.fault.Fault.{Fault}
use Rattle.ref_base.specs.declared.out.Done.{Done}
use Rattle.ref_base.specs.declared.row.Row.{Row}
use Rattle.ref_base.specs.declared.reply.Reply.{Reply}
use Rattle.ref_base.specs.declared.reply.Reply.TheVariants as replies
use Rattle.ref_base.specs.declared.heap_step.HeapStep.TheVariants as heap
use Rattle.ref_base.specs.declared.plain_step.PlainStep.{PlainStep}
use Rattle.ref_base.specs.declared.plain_step.PlainStep.TheVariants as plain
use Rattle.ref_base.specs.declared.step.Step.{Step}
use Rattle.ref_base.specs.declared.step.Step.TheVariants as steps
use Rattle.ref_base.proofs.Bases.{base, refuses, lead_of}
use Rattle.ref_base.proofs.CarryLaws.{all_map}
use Rattle.ref_base.proofs.CountedTraces.{row_counted, empty_hand}
use Rattle.ref_base.proofs.CountedWorlds.{counted_took, first_counted}
use Rattle.ref_base.proofs.HoldCounts.{tally-append, tally-queue_set, tally-has}
use Rattle.ref_base.specs.CountedHolds.{reported}
use Rattle.ref_base.specs.QueueRows.{HandNotice, those_for, put_by}
use Rattle.ref_base.proofs.BatchParts.{all_added}
use Rattle.ref_base.proofs.HasLaws.{has-left, has-right, has-first, has-cases}
use Rattle.ref_base.proofs.OutcomeParts.{outcome_stage}
use Rattle.ref_base.proofs.Places.{set_each}
use Rattle.ref_base.proofs.PlainRows.{plain_row, accepted_plain}
use Rattle.ref_base.proofs.QueueLaws.{Goes, held_of, as_held, poll_goes, IsPoll}
use Rattle.ref_base.proofs.LegalQueues.{distinct_nil}
use Rattle.ref_base.proofs.Fitting.{with_scanned}
use Rattle.ref_base.proofs.ReplayKeeps.{told_keeps, done_keeps}
use Rattle.ref_base.proofs.RowForms.{ticked_world, unless_passes}
use Rattle.ref_base.proofs.RowLaws.{row_goes, mutator_within, queue_within}
use Rattle.ref_base.proofs.SoundWorlds.{IsSound, sound_queue, sound_again, names_below, below_lasts, ObjectBelow}
use Rattle.ref_base.proofs.SoundWorlds.{NamesBelow, first_sound, first_queue, first_hand, IsOwn}
use Rattle.ref_judge.specs.ProfiledRows.{IsRowAs, IsAnswerAs, AcceptsAnew, PlainAcceptsAs, PollsAs, says_anew}
use Rattle.ref_judge.specs.ProfiledRows.{AreTakenFrom}
use Rattle.ref_judge.specs.declared.profile.Profile.{Profile}
use Rattle.ref_judge.proofs.HeldNotices.{IsFine, TellsFew, held_fine, tells_few}
use Rattle.ref_judge.proofs.ProfiledBases.{one_base_as, takes_few}
use Rattle.ref_judge.proofs.TakenNotices.{distinct_tally, tally_distinct, taken_stands, taken_tally, taken_all}
use Rattle.ref_judge.proofs.TakenNotices.{with_first, reordered, took_reordered}
use Rattle.ref_judge.proofs.UnchangedRows.{common_row, plain_accepted_as}

-- each queue has its own number
abbrev pub AreNumbered : World → Type 0
AreNumbered w = (q : ℕ) → (queue_at w q).queue ≡ q

pub record IsRight (w : World) : Type 0 where
  pub sound : IsSound w
  pub counted : AreCounted w
  pub once : (q : ℕ) → IsDistinct nat_eq (enqueued object_of (queue_at w q))
  pub numbered : AreNumbered w
  pub fine : (who : Actor) → IsFine (held_of w who)

-- ---- numbers of queues

numbered_queue : (w : World) (q : ℕ) (l : Lists Notice) → l.queue ≡ q → AreNumbered w → AreNumbered (with_queue w q l)
numbered_queue w q l is numbered =
    set_each (λ k (x : Lists Notice). x.queue ≡ k) w.queues q l new_queue is numbered

numbered_hand : (w : World) (who : Actor) (hand : List Notice) → AreNumbered w → AreNumbered (with_hand w who hand)
numbered_hand w (Mutator m) hand numbered = numbered
numbered_hand w (Worker k) hand numbered = numbered

numbered_standing : (w : World) (notices : List Notice) → AreNumbered w → AreNumbered (standing w notices)
numbered_standing w [] numbered = numbered
numbered_standing w (notice ∷ rest) numbered =
    let next : World = with_queue w notice.queue (with_parcel (queue_at w notice.queue) notice) in
    numbered_standing next rest
    (numbered_queue w notice.queue (with_parcel (queue_at w notice.queue) notice) (numbered notice.queue) numbered)

numbered_put : (w : World) (who : Actor) (ds : List Done) → AreNumbered w → AreNumbered (put_in w who ds)
numbered_put w who [] numbered = numbered
numbered_put w who (d ∷ ds) numbered =
    let added : List Notice = added_among (hand_of w who) (d ∷ ds) in
    numbered_hand (standing w added) who (not_added (hand_of w who) (d ∷ ds)) (numbered_standing w added numbered)

numbered_took : (w : World) (m q : ℕ) (ns : List ℕ) → AreNumbered w → AreNumbered (took w m q ns)
numbered_took w m q [] numbered = numbered
numbered_took w m q (n ∷ ns) numbered =
    numbered_queue w q (taken_out (queue_at w q) (n ∷ ns)) (numbered q) numbered

numbered_closed : (w : World) (q : ℕ) (closes : Bool) → AreNumbered w
    → AreNumbered (if closes then closed_queue w q else w)
numbered_closed w q true numbered =
    numbered_queue w q (record (queue_at w q) { closed = true }) (numbered q) numbered
numbered_closed w q false numbered = numbered

numbered_after : (w : World) (step : Step) (reply : Reply) → AreNumbered w → AreNumbered (after_queues w step reply)
numbered_after w (steps.Put who) reply numbered = numbered_put w who (told_dones reply) numbered
numbered_after w (steps.Puts who) reply numbered = numbered_put w who (told_dones reply) numbered
numbered_after w (steps.Poll m q) reply numbered = numbered_took w m q (told_taken reply) numbered
numbered_after w (steps.Polls m q max) reply numbered = numbered_took w m q (told_taken reply) numbered
numbered_after w (steps.Close m q) reply numbered = numbered_closed w q (is_done reply) numbered
numbered_after w step reply numbered = numbered

numbered_taking : (w : World) (who : Actor) (notices : List Notice) → AreNumbered w → AreNumbered (taking w who notices)
numbered_taking w who [] numbered = numbered
numbered_taking w who (notice ∷ rest) numbered = numbered_hand w who (notice ∷ rest) numbered

numbered_rest : (w : World) (who : Actor) (spends : Bool) → AreNumbered w
    → AreNumbered (if spends then with_rest w who else w)
numbered_rest w who true numbered = numbered_hand w who (rest_of (hand_of w who)) numbered
numbered_rest w who false numbered = numbered

numbered_handed : (w : World) (step : Step) (reply : Reply) → AreNumbered w → AreNumbered (handed w step reply)
numbered_handed w (steps.Unhook m s) reply numbered = numbered_taking w (Mutator m) (told_notices reply) numbered
numbered_handed w (steps.Hand k) reply numbered = numbered_taking w (Worker k) (told_notices reply) numbered
numbered_handed w (steps.Hands k max) reply numbered = numbered_taking w (Worker k) (told_notices reply) numbered
numbered_handed w (steps.Adopt m d) reply numbered = numbered_rest w (Mutator m) (is_some (told_object reply)) numbered
numbered_handed w (steps.Release who) reply numbered = numbered_rest w who (is_done reply) numbered
numbered_handed w step reply numbered = numbered

queues_led : (a : State) (step : NamedStep) (reply : Reply) → (lead_of a step reply).world.queues ≡ a.world.queues
queues_led a (heap.Plain (plain.Begin now how)) reply =
    told_keeps (λ (w : World). w.queues) (told_cycle reply) _ a.world (λ n. refl)
queues_led a (heap.Plain plain.EndMark) reply = refl
queues_led a (heap.Plain plain.EndClear) reply =
    done_keeps (λ (w : World). w.queues) (is_done reply) _ a.world refl
queues_led a (heap.Plain plain.EndSweep) reply =
    done_keeps (λ (w : World). w.queues) (is_done reply) _ a.world refl
queues_led a (heap.Plain plain.Select) reply =
    done_keeps (λ (w : World). w.queues) (is_selected reply) _ a.world refl
queues_led a (heap.Plain plain.EndMove) reply =
    done_keeps (λ (w : World). w.queues) (is_done reply) _ a.world refl
queues_led a step reply = ap (λ (w : World). w.queues) (outcome_stage a step reply tt)

abbrev lead_to : State → Option NamedStep → Step → Reply → State
lead_to a None step reply = ticked (with_world a (after_queues a.world step reply))
lead_to a (Some asked) step reply = with_handed (ticked (lead_of a asked reply)) step reply

numbered_lead : (a : State) (asked : Option NamedStep) (step : Step) (reply : Reply) → AreNumbered a.world
    → AreNumbered (lead_to a asked step reply).world
numbered_lead a None step reply numbered =
    let c : State = with_world a (after_queues a.world step reply) in
    subst AreNumbered (sym (ticked_world c)) (numbered_after a.world step reply numbered)
numbered_lead a (Some asked) step reply numbered =
    let c : State = lead_of a asked reply in
    numbered_handed (ticked c).world step reply
    (subst AreNumbered (sym (ticked_world c))
    (λ q. ap (λ (qs : List (Lists Notice)). (queue_at (record a.world { queues = qs }) q).queue)
    (queues_led a asked reply) ∙ numbered q))

numbered_row : (p : Profile) (a b : State) (row : Row) → IsRowAs p a row b → AreNumbered a.world → AreNumbered b.world
numbered_row p a b row h numbered = of_refusal (refuses row.reply) (one_base_as p a b row h)
  where
    of_refusal : (refused : Bool)
        → base b ≡ (if refused then base a else base (lead_to a (heap_step a.world row.step) row.step row.reply))
        → AreNumbered b.world
    of_refusal true is = subst (λ (s : State). AreNumbered s.world) (sym is) numbered
    of_refusal false is =
        subst (λ (s : State). AreNumbered s.world) (sym is)
        (numbered_lead a (heap_step a.world row.step) row.step row.reply numbered)

-- ---- lists in which none stands twice

all_other : (n : ℕ) (ns : List ℕ) → has ns n ≡ false → AllByRecursion (λ y. nat_eq n y ≡ false) ns
all_other n [] lacks = tt
all_other n (m ∷ ns) lacks = grind (arith, all_other n ns)

lacks_other : (n : ℕ) (ns : List ℕ) → AllByRecursion (λ y. nat_eq n y ≡ false) ns → has ns n ≡ false
lacks_other n [] all = refl
lacks_other n (m ∷ ns) all = grind (arith, lacks_other n ns all.1)

is_distinct : (ns : List ℕ) → AreDistinct ns → IsDistinct nat_eq ns
unfolding IsDistinct
is_distinct [] distinct = tt
is_distinct (n ∷ ns) distinct = (all_other n ns distinct.0, is_distinct ns distinct.1)

pub are_distinct : (ns : List ℕ) → IsDistinct nat_eq ns → AreDistinct ns
unfolding IsDistinct
are_distinct [] distinct = tt
are_distinct (n ∷ ns) distinct = (lacks_other n ns distinct.0, are_distinct ns distinct.1)

-- ---- what is out is held

has_tally : (ns : List ℕ) (n : ℕ) → has ns n ≡ true → 1 ≤ tally ns n
has_tally [] n h = absurd (false≢true h)
has_tally (m ∷ ns) n h = grind (arith, has_tally ns n)

in_hand_there : (hands : List (List Notice)) (m n : ℕ) → has (map object_of (slice_index_or hands m [])) n ≡ true
    → has (in_hands hands) n ≡ true
in_hand_there [] m n h = absurd (false≢true h)
in_hand_there (hand ∷ hands) zero n h = has-left (map object_of hand) (in_hands hands) n h
in_hand_there (hand ∷ hands) (suc m) n h =
    has-right (map object_of hand) (in_hands hands) n (in_hand_there hands m n h)

in_queue_there : (qs : List (Lists Notice)) (q : ℕ) (k n : ℕ)
    → has (map object_of (slice_index_or qs q (new_queue k)).stands) n ≡ true → has (in_queues qs) n ≡ true
in_queue_there [] q k n h = absurd (false≢true h)
in_queue_there (l ∷ qs) zero k n h = has-left (map object_of l.stands) (in_queues qs) n h
in_queue_there (l ∷ qs) (suc q) k n h =
    has-right (map object_of l.stands) (in_queues qs) n (in_queue_there qs q k n h)

reported_held : (w : World) → AreCounted w → (n : ℕ) → has (reported w) n ≡ true → has w.heap.holds n ≡ true
reported_held w counted n h =
    let some = has_tally (reported w) n h in
    let few = counted n in tally-has w.heap.holds n (omega (arith, some, few))

pub hand_held : (w : World) (who : Actor) → AreCounted w → (n : ℕ) → has (map object_of (hand_of w who)) n ≡ true
    → has w.heap.holds n ≡ true
hand_held w (Mutator m) counted n h =
    reported_held w counted n
    (has-left (in_hands w.mutator_hands ++ in_hands w.worker_hands) (in_queues w.queues) n
    (has-left (in_hands w.mutator_hands) (in_hands w.worker_hands) n (in_hand_there w.mutator_hands m n h)))
hand_held w (Worker k) counted n h =
    reported_held w counted n
    (has-left (in_hands w.mutator_hands ++ in_hands w.worker_hands) (in_queues w.queues) n
    (has-right (in_hands w.mutator_hands) (in_hands w.worker_hands) n (in_hand_there w.worker_hands k n h)))

pub queue_held : (w : World) (q : ℕ) → AreCounted w → (n : ℕ) → has (map object_of (queue_at w q).stands) n ≡ true
    → has w.heap.holds n ≡ true
queue_held w q counted n h =
    reported_held w counted n
    (has-right (in_hands w.mutator_hands ++ in_hands w.worker_hands) (in_queues w.queues) n
    (in_queue_there w.queues q q n h))

-- what holds of the number of each holds of each
pub all_of_has : (Q : ℕ → Type 0) (notices : List Notice) → ((n : ℕ) → has (map object_of notices) n ≡ true → Q n)
    → AllByRecursion (λ x. Q x.object) notices
all_of_has Q [] each = tt
all_of_has Q (x ∷ notices) each = (
  each x.object (has-first x.object (map object_of notices)),
  all_of_has Q notices
      (λ n h. each n (has-right (x.object ∷ []) (map object_of notices) n h)),
)

-- ---- what comes into queues

-- what stands or stood in a queue did so before, or was held
abbrev pub PutsHeld : World → World → Type 0
PutsHeld v w =
    (q n : ℕ) → has (enqueued object_of (queue_at w q)) n ≡ true
    → (has (enqueued object_of (queue_at v q)) n ≡ true) ⊎ (has v.heap.holds n ≡ true)

all_as_held : (Q : ℕ → Type 0) (hand : List Notice) → AllByRecursion (λ x. Q x.object) hand
    → AllByRecursion (λ x. Q x.object) (as_held hand)
all_as_held Q [] all = tt
all_as_held Q (x ∷ hand) all = (all.0, all_as_held Q hand all.1)

those_all : (Q : ℕ → Type 0) (q : ℕ) (held : List HandNotice) (n : ℕ) → AllByRecursion (λ x. Q x.object) held
    → has (those_for q held) n ≡ true → Q n
those_all Q q [] n all h = absurd (false≢true h)
those_all Q q (x ∷ held) n all h = of_own (x.queue == q) (those_all Q q held n all.1) h
  where
    of_own : (own : Bool) → (has (those_for q held) n ≡ true → Q n)
        → has (if own then x.object ∷ those_for q held else those_for q held) n ≡ true → Q n
    of_own true later h = elim (or_cases (x.object == n) (has (those_for q held) n) h) [
      | inl is ↦ subst Q (eqb-true x.object n is) all.0
      | inr behind ↦ later behind
    ]
    of_own false later h = later h

put_held : (w : World) (q : ℕ) (step : Step) (reply : Reply) → AreCounted w → (n : ℕ)
    → has (put_by (held_of w) q step reply) n ≡ true → has w.heap.holds n ≡ true
put_held w q (steps.Put who) reply counted n h =
    those_all (λ k. has w.heap.holds k ≡ true) q (added_among (held_of w who) (told_dones reply)) n
    (all_added (λ x. has w.heap.holds x.object ≡ true) (held_of w who) (told_dones reply)
    (all_as_held (λ k. has w.heap.holds k ≡ true) (hand_of w who)
    (all_of_has (λ k. has w.heap.holds k ≡ true) (hand_of w who) (hand_held w who counted)))) h
put_held w q (steps.Puts who) reply counted n h =
    those_all (λ k. has w.heap.holds k ≡ true) q (added_among (held_of w who) (told_dones reply)) n
    (all_added (λ x. has w.heap.holds x.object ≡ true) (held_of w who) (told_dones reply)
    (all_as_held (λ k. has w.heap.holds k ≡ true) (hand_of w who)
    (all_of_has (λ k. has w.heap.holds k ≡ true) (hand_of w who) (hand_held w who counted)))) h
put_held w q step reply counted n h = absurd (false≢true h)

-- ---- rows

abbrev pub GoesRight : World → World → Type 0
GoesRight v w = IsRight w × PutsHeld v w

right_goes : (v w : World) (step : Step) (reply : Reply) → IsRight v → Goes v w step reply → AreCounted w
    → AreNumbered w → TellsFew step reply → GoesRight v w
right_goes v w step reply right goes counted numbered few = (
  record {
    sound = goes.sound;
    counted = counted;
    once = λ q. (goes.queue q).distinct (right.once q);
    numbered = numbered;
    fine = λ who. subst IsFine (sym (goes.held who)) (held_fine (held_of v) step reply few right.fine who);
  },
  λ q n h.
      elim (has-cases (enqueued object_of (queue_at v q)) (put_by (held_of v) q step reply) n
      (ap (λ ns. has ns n) (sym (goes.queue q).put) ∙ h)) [
        | inl before ↦ inl before
        | inr new ↦ inr (put_held v q step reply right.counted n new)
      ],
)

right_same : (v w : World) → w ≡ v → IsRight v → GoesRight v w
right_same v w is right = (
  subst IsRight (sym is) right,
  λ q n h.
      inl (ap (λ (u : World). has (enqueued object_of (queue_at u q)) n) (sym is) ∙ h),
)

-- the world of a mark's end
right_ended : (a : State) (d : List ℕ) (found : List (List ℕ)) → IsRight a.world
    → IsRight (mark_ended a d found).world
right_ended a d found right =
    let w : World = (mark_ended a d found).world in
    let count : ℕ = a.world.heap.config.queues in
    let below : NamesBelow count a.world = names_below a.world right.sound in
    let objects = all_map {P = ObjectBelow count} a.world.heap.objects (shown d) (shown_below count d) below.objects in
    record {
      sound = sound_again a.world w (record { mutators = refl; workers = refl; queues = refl }) refl right.sound
          (assumption (objects, below));
      counted = right.counted;
      once = right.once;
      numbered = right.numbered;
      fine = fine;
    }
  where
    shown_below : (count : ℕ) (d : List ℕ) (o : Object) → ObjectBelow count o → ObjectBelow count (shown d o)
    shown_below count d o below =
        elim (cases_Bool (is_new_clear d o)) [
          | inl new ↦ simp new ((below_lasts count).clears o below)
          | inr old ↦ simp old below
        ]

    fine : (who : Actor) → IsFine (held_of (mark_ended a d found).world who)
    fine (Mutator m) = right.fine (Mutator m)
    fine (Worker k) = right.fine (Worker k)

-- ---- polls

module _ (w : World) (q : ℕ) (taken : List Notice) (right : IsRight w) (within : q < length w.queues)
    (are : AreTakenFrom (queue_at w q).stands taken) where
  first_tally : (n : ℕ) → tally (enqueued object_of (with_first (queue_at w q) taken)) n
      ≡ tally (enqueued object_of (queue_at w q)) n
  first_tally n =
      let l : Lists Notice = queue_at w q in
      let new = tally-append l.taken (map object_of (with_first l taken).stands) n in
      let old = tally-append l.taken (map object_of l.stands) n in
      let same = taken_tally l.stands taken n are in omega (arith, new, old, same)

  counted_first : AreCounted (reordered w q taken)
  counted_first n =
      let l : Lists Notice = queue_at w q in
      let v : World = reordered w q taken in
      let few = right.counted n in
      let same = taken_tally l.stands taken n are in
      let set = tally-queue_set w.queues q (with_first l taken) (new_queue q) n within in
      let others : List ℕ = in_hands w.mutator_hands ++ in_hands w.worker_hands in
      let old : tally (reported w) n ≡ tally others n + tally (in_queues w.queues) n =
      tally-append others (in_queues w.queues) n in
      let new : tally (reported v) n ≡ tally others n + tally (in_queues v.queues) n =
      tally-append others (in_queues v.queues) n in
      omega (arith, few, same, set, old, new)

  once_first : IsDistinct nat_eq (enqueued object_of (with_first (queue_at w q) taken))
  once_first =
      is_distinct (enqueued object_of (with_first (queue_at w q) taken))
      (tally_distinct (enqueued object_of (with_first (queue_at w q) taken))
      (λ n.
      let same = first_tally n in
      let few = distinct_tally (enqueued object_of (queue_at w q)) (are_distinct _ (right.once q)) n in
      omega (arith, same, few)))

  fine_first : (who : Actor) → IsFine (held_of (reordered w q taken) who)
  fine_first (Mutator m) = right.fine (Mutator m)
  fine_first (Worker k) = right.fine (Worker k)

  right_first : IsRight (reordered w q taken)
  right_first = record {
    sound = sound_queue w q (with_first (queue_at w q) taken) right.sound within
        (taken_all (IsOwn q) (queue_at w q).stands taken are (right.sound.own q));
    counted = counted_first;
    once = set_each (λ k (l : Lists Notice). IsDistinct nat_eq (enqueued object_of l)) w.queues q
        (with_first (queue_at w q) taken) new_queue once_first right.once;
    numbered = numbered_queue w q (with_first (queue_at w q) taken) (right.numbered q) right.numbered;
    fine = fine_first;
  }

  -- nothing more stands or stood there
  first_before : (k n : ℕ) → has (enqueued object_of (queue_at (reordered w q taken) k)) n ≡ true
      → has (enqueued object_of (queue_at w k)) n ≡ true
  first_before k =
      set_each (λ j (l : Lists Notice).
      (n : ℕ) → has (enqueued object_of l) n ≡ true → has (enqueued object_of (queue_at w j)) n ≡ true) w.queues q
      (with_first (queue_at w q) taken) new_queue
      (λ n h.
      let some = has_tally (enqueued object_of (with_first (queue_at w q) taken)) n h in
      let same = first_tally n in tally-has (enqueued object_of (queue_at w q)) n (omega (arith, some, same)))
      (λ j n h. h) k

-- a poll takes these, or nothing
polls_right : (a b : State) (m q : ℕ) (step : Step) (tell : List ℕ → Reply) (taken : List Notice) (reply : Reply)
    → IsRight a.world → m < length a.world.mutator_hands → hand_of a.world (Mutator m) ≡ []
    → q < length a.world.queues → AreTakenFrom (queue_at a.world q).stands taken
    → ((notice : Notice) (more : List Notice) → taken ≡ notice ∷ more
    → IsPoll m q (map object_of taken) step (tell (map object_of taken)))
    → AreNumbered b.world → TellsFew step reply → Polls a m q tell taken reply b → GoesRight a.world b.world
polls_right a b m q step tell [] reply right has free within are polls numbered few row =
    right_same a.world b.world (ap (λ (s : State). s.world) row.1 ∙ ticked_world a) right
polls_right a b m q step tell (notice ∷ more) reply right has free within are polls numbered few row =
    let w : World = a.world in
    let taken : List Notice = notice ∷ more in
    let ns : List ℕ = map object_of taken in
    let v : World = reordered w q taken in
    let rest : List Notice = without_notices (queue_at w q).stands ns in
    let before : IsRight v = right_first w q taken right within are in
    let there : q < length v.queues = subst (λ (k : ℕ). q < k) (sym (length-set w.queues q _)) within in
    let stands : (queue_at v q).stands ≡ taken ++ rest =
    ap (λ (l : Lists Notice). l.stands)
    (get_or-set_same w.queues q (with_first (queue_at w q) taken) (new_queue q) within) in
    let same : b.world ≡ took v m q ns =
    ap (λ (s : State). s.world) row.1 ∙ ticked_world (with_world a (took w m q ns))
    ∙ sym (took_reordered w m q notice more within are) in
    let goes : Goes v b.world step reply =
    subst (λ (u : World). Goes v u step reply) (sym same)
    (subst (λ (r : Reply). Goes v (took v m q ns) step r) (sym row.0)
    (poll_goes v m q notice more rest step (tell ns) before.sound has there stands (polls notice more refl))) in
    let counted : AreCounted b.world =
    subst AreCounted (sym same) (counted_took v m q taken rest has free there stands before.counted) in
    let after = right_goes v b.world step reply before goes counted numbered few in (
      after.0,
      λ k n h. elim (after.1 k n h) [
        | inl stood ↦ inl (first_before w q taken right within are k n stood)
        | inr held ↦ inr held
      ],
    )

one_poll : (m q : ℕ) (taken : List Notice) → length taken ≤ 1 → (notice : Notice) (more : List Notice)
    → taken ≡ notice ∷ more → IsPoll m q (map object_of taken) (steps.Poll m q) (one_taken (map object_of taken))
one_poll m q [] few notice more is = absurd cc
one_poll m q (x ∷ []) few notice more is = λ hands k. refl
one_poll m q (x ∷ y ∷ taken) few notice more is = absurd (omega (arith, few))

stood_once : (w : World) (q : ℕ) → IsRight w → AreDistinct (map object_of (queue_at w q).stands)
stood_once w q right =
    tally_distinct (map object_of (queue_at w q).stands)
    (λ n.
    let l : Lists Notice = queue_at w q in
    let parts = tally-append l.taken (map object_of l.stands) n in
    let few = distinct_tally (enqueued object_of l) (are_distinct _ (right.once q)) n in
    omega (arith, parts, few))

module _ (p : Profile) (a b : State) (right : IsRight a.world) where
  common_right : (c : State) (row : Row) → IsRow a row c → TellsFew row.step row.reply → AreNumbered c.world
      → GoesRight a.world c.world
  common_right c row h few numbered =
      right_goes a.world c.world row.step row.reply right (row_goes a row c right.sound h)
      (row_counted a row c right.sound right.counted h) numbered few

  anew_right : (anew : Bool) (step : PlainStep) (reply : Reply) → plain_refusal a step ≡ None
      → AcceptsAnew p anew a step reply b → AreNumbered b.world → GoesRight a.world b.world
  anew_right true step reply none row numbered =
      let same : b.world ≡ row.0.world = ap (λ (s : State). s.world) row.2.1 in
      subst (λ (w : World). GoesRight a.world w) (sym same)
      (common_right row.0 (plain_row step reply) (accepted_plain a row.0 step reply none row.1) tt
      (subst AreNumbered same numbered))
  anew_right false step reply none row numbered =
      common_right b (plain_row step reply) (accepted_plain a b step reply none row) tt numbered

  plain_right : (step : PlainStep) (reply : Reply) → plain_refusal a step ≡ None → PlainAcceptsAs p a step reply b
      → AreNumbered b.world → GoesRight a.world b.world
  plain_right (plain.Scan k) (replies.Scanned n) none row numbered =
      right_same a.world b.world
      (ap (λ (s : State). s.world) row.2.1 ∙ ticked_world (with_scanned a k n)) right
  plain_right (plain.Scan k) reply none row numbered =
      common_right b (plain_row (plain.Scan k) reply) (accepted_plain a b (plain.Scan k) reply none row) tt numbered
  plain_right plain.EndMark reply none row numbered =
      subst (λ (s : State). GoesRight a.world s.world) (sym row.after)
      (right_ended a (doomed_at a) row.found right, λ q n h. inl h)
  plain_right step reply none row numbered = anew_right (says_anew a step reply) step reply none row numbered

  step_right : (step : Step) (reply : Reply) → refusal a step ≡ None
      → IsRowAs p a (record { step = step; reply = reply }) b → AreNumbered b.world → TellsFew step reply
      → GoesRight a.world b.world
  step_right (steps.Plain step) reply none h numbered few =
      plain_right step reply none (plain_accepted_as p a b step reply none h) numbered
  step_right (steps.Poll m q) reply none h numbered few =
      let row : PollsAs p.order a m q 1 one_taken reply b =
      subst (λ (o : Option Fault). IsAnswerAs p a o (steps.Poll m q) reply b) none h in
      let first = unless_passes (is_mutator a.world.heap m) _ _ none in
      let second = unless_passes (is_queue a.world.heap q) _ _ first.1 in
      polls_right a b m q (steps.Poll m q) one_taken row.0 reply right (mutator_within a.world m right.sound first.0)
      (empty_hand (hand_of a.world (Mutator m)) None second.1) (queue_within a.world q right.sound second.0)
      (taken_stands p.order 1 (queue_at a.world q).stands row.0 (stood_once a.world q right) row.1)
      (one_poll m q row.0 (takes_few p.order 1 (queue_at a.world q).stands row.0 row.1)) numbered few row.2
  step_right (steps.Polls m q max) reply none h numbered few =
      let row : PollsAs p.order a m q max replies.TookSome reply b =
      subst (λ (o : Option Fault). IsAnswerAs p a o (steps.Polls m q max) reply b) none h in
      let first = unless_passes (is_mutator a.world.heap m) _ _ none in
      let second = unless_passes (is_queue a.world.heap q) _ _ first.1 in
      let third = unless_passes (fits max (length (hand_of a.world (Mutator m)))) _ _ second.1 in
      polls_right a b m q (steps.Polls m q max) replies.TookSome row.0 reply right
      (mutator_within a.world m right.sound first.0) (empty_hand (hand_of a.world (Mutator m)) None third.1)
      (queue_within a.world q right.sound second.0)
      (taken_stands p.order max (queue_at a.world q).stands row.0 (stood_once a.world q right) row.1)
      (λ notice more is hands k. refl) numbered few row.2
  step_right step reply none h numbered few =
      let row : Row = record { step = step; reply = reply } in
      common_right b row (common_row p a b row (inr tt) h) few numbered

  -- a row keeps hands and queues right
  pub right_row : (row : Row) → IsRowAs p a row b → GoesRight a.world b.world
  right_row row h = of_fault (refusal a row.step) refl h
    where
      of_fault : (fault : Option Fault) → refusal a row.step ≡ fault → IsAnswerAs p a fault row.step row.reply b
          → GoesRight a.world b.world
      of_fault (Some fault) is refused = right_same a.world b.world (ap (λ (s : State). s.world) refused.1) right
      of_fault None is accepted =
          step_right row.step row.reply is h (numbered_row p a b row h right.numbered) (tells_few p a b row h)

pub first_right : (config : Config) → IsRight (first_world config)
first_right config = record {
  sound = first_sound config;
  counted = first_counted config;
  once = λ q.
      subst (λ (l : Lists Notice). IsDistinct nat_eq (enqueued object_of l)) (sym (first_queue config q)) distinct_nil;
  numbered = λ q. ap (λ (l : Lists Notice). l.queue) (first_queue config q);
  fine = λ who.
      subst (λ (hand : List Notice). IsFine (as_held hand)) (sym (first_hand config who)) ((0, tt), omega arith);
}
