-- In each state to which rows lead each notice, in hands, in queues and still to be given, is for the queue with which
-- its reference is registered.
use Rattle.ref_base.proofs.Common.{arith, ◌≡◌, ℕ, ◌==◌, Bool, true, false, List, [], ◌∷◌, map, Option, Some, None}
use Rattle.ref_base.proofs.Common.{is_some, refl, sym, ap, ◌∙◌, subst, inl, inr, false≢true, eq-eqb, AllByRecursion}
use Rattle.ref_base.proofs.Common.{has, Object, object_at, is_there, numbers, Notice, World, State, hand_of, queue_at}
use Rattle.ref_base.proofs.Common.{pending_of, notice_from, reference_in, registered_in, object_of, refusal, took}
use Rattle.ref_base.proofs.Common.{taken_out, with_queue, with_world, Polls, one_taken, without_notices, notices_of}
use Rattle.ref_base.proofs.Common.{mark_ended, doomed_at, shown, is_new_clear, cleared, got_at, IsRow, Lists}
use Rattle.ref_base.proofs.Common.{cases_Bool, eqb-true, changed_reference, Reference, is_soft}
use Rattle.ref_base.specs.declared.actor.Actor.TheVariants.{Mutator, Worker}
use Rattle.ref_base.specs.Members.{AreDistinct, without_first}
use Rattle.ref_base.specs.Refusals.{plain_refusal}
use Rattle.ref_base.specs.declared.config.Config.{Config}
use Rattle.ref_base.specs.declared.fault.Fault.{Fault}
use Rattle.ref_base.specs.declared.row.Row.{Row}
use Rattle.ref_base.specs.declared.reply.Reply.{Reply}
use Rattle.ref_base.specs.declared.reply.Reply.TheVariants as replies
use Rattle.ref_base.specs.declared.plain_step.PlainStep.{PlainStep}
use Rattle.ref_base.specs.declared.plain_step.PlainStep.TheVariants as plain
use Rattle.ref_base.specs.declared.step.Step.{Step}
use Rattle.ref_base.specs.declared.step.Step.TheVariants as steps
use Rattle.ref_base.proofs.CarryLaws.{Carries, Lasts, AnyCycle, all_map, all_without_first, carries_hand, carries_queue}
use Rattle.ref_base.proofs.CarryRows.{Mints, row_carries, first_carries, all_notices_of}
use Rattle.ref_base.proofs.Fitting.{with_scanned}
use Rattle.ref_base.proofs.PlainRows.{plain_row, accepted_plain}
use Rattle.ref_base.proofs.RowForms.{ticked_world}
use Rattle.ref_judge.specs.ProfiledRows.{IsRowAs, IsAnswerAs, AcceptsAnew, PlainAcceptsAs, PollsAs, says_anew}
use Rattle.ref_judge.specs.Standing.{Lawful}
use Rattle.ref_judge.specs.declared.profile.Profile.{Profile}
use Rattle.ref_judge.proofs.LawfulRuns.{lawful_holds, lawful_row}
use Rattle.ref_judge.proofs.LawfulStates.{lawful_right, lawful_live}
use Rattle.ref_judge.proofs.LiveNames.{LiveNames, IsLive}
use Rattle.ref_judge.proofs.MemberCounts.{rising_distinct}
use Rattle.ref_judge.proofs.RightWorlds.{IsRight, hand_held, queue_held, all_of_has}
use Rattle.ref_judge.proofs.UnchangedRows.{common_row, plain_accepted_as}

-- the reference that it reports is registered with the queue that it is for
abbrev pub IsRegisteredIn : List Object → Notice → Type 0
IsRegisteredIn os notice = registered_in (reference_in (object_at os notice.object)) ≡ Some notice.queue

-- the object is registered as the one of its number among these, if there is one
abbrev IsRegisteredAs : List Object → Object → Type 0
IsRegisteredAs os o =
    is_there os o.no ≡ true → registered_in o.reference ≡ registered_in (reference_in (object_at os o.no))

abbrev AnyObject : Object → Type 0
AnyObject o = Unit {0}

abbrev pub AreRegistered : State → Type 0
AreRegistered a = Carries AnyObject (IsRegisteredIn a.world.heap.objects) AnyCycle a.world

-- ---- objects

cleared_queue : (r : Option Reference) → registered_in (changed_reference cleared r) ≡ registered_in r
cleared_queue None = refl
cleared_queue (Some r) = refl

got_queue : (clock : ℕ) (r : Option Reference) → registered_in (changed_reference (got_at clock) r) ≡ registered_in r
got_queue clock None = refl
got_queue clock (Some r) =
    elim (cases_Bool (is_soft r.strength)) [ inl soft ↦ simp soft refl | inr other ↦ simp other refl ]

as_lasts : (os : List Object) → Lasts (IsRegisteredAs os)
as_lasts os = record {
  stores = λ o i value is there. is there;
  clears = λ o is there. cleared_queue o.reference ∙ is there;
  gets = λ o clock is there. got_queue clock o.reference ∙ is there;
}

-- where none stands twice, each object is found by its number
abbrev AreAt : List Object → List Object → Type 0
AreAt os = AllByRecursion (λ x. object_at os x.no ≡ Some x)

at_behind : (o : Object) (os xs : List Object) → has (numbers xs) o.no ≡ false → AreAt os xs → AreAt (o ∷ os) xs
at_behind o os [] lacks are = tt
at_behind o os (x ∷ xs) lacks are = grind (arith, at_behind o os xs)

all_at : (os : List Object) → AreDistinct (numbers os) → AreAt os os
all_at [] distinct = tt
all_at (o ∷ os) distinct =
    (simp (eq-eqb o.no o.no refl) refl, at_behind o os os distinct.0 (all_at os distinct.1))

at_registered : (os xs : List Object) → AreAt os xs → AllByRecursion (IsRegisteredAs os) xs
at_registered os [] are = tt
at_registered os (x ∷ xs) are = (
  λ there. ap (λ (o : Option Object). registered_in (reference_in o)) (sym are.0),
  at_registered os xs are.1,
)

-- what holds of each holds of what is found
all_found : (P : Object → Type 0) (os : List Object) (n : ℕ) → AllByRecursion P os → is_there os n ≡ true
    → (o : Object) × (object_at os n ≡ Some o) × (o.no ≡ n) × P o
all_found P [] n all there = absurd (false≢true there)
all_found P (o ∷ os) n all there =
    elim (cases_Bool (o.no == n)) [
      | inl is ↦ (o, simp is refl, eqb-true o.no n is, all.0)
      | inr other ↦ simp other (all_found P os n all.1 (simp other at there))
    ]

-- ---- from the objects before to those after

all_pair : {X : Type 0} (P Q R : X → Type 0) (xs : List X) → ((x : X) → P x → Q x → R x) → AllByRecursion P xs
    → AllByRecursion Q xs → AllByRecursion R xs
all_pair P Q R [] both all also = tt
all_pair P Q R (x ∷ xs) both all also = (both x all.0 also.0, all_pair P Q R xs both all.1 also.1)

registered_there : (os : List Object) (notice : Notice) → IsRegisteredIn os notice → is_there os notice.object ≡ true
registered_there os notice is = of_found (object_at os notice.object) is
  where
    of_found : (o : Option Object) → registered_in (reference_in o) ≡ Some notice.queue → is_some o ≡ true
    of_found None is = absurd cc
    of_found (Some o) is = refl

still_registered : (os more : List Object) → AllByRecursion (IsRegisteredAs os) more → (notice : Notice)
    → IsRegisteredIn os notice → is_there more notice.object ≡ true → IsRegisteredIn more notice
still_registered os more all notice is there =
    let (o, at, number, same) = all_found (IsRegisteredAs os) more notice.object all there in
    ap (λ (x : Option Object). registered_in (reference_in x)) at
    ∙ same (ap (is_there os) number ∙ registered_there os notice is)
    ∙ ap (λ (k : ℕ). registered_in (reference_in (object_at os k))) number ∙ is

-- whatever is reported or waits is there
module _ (b : State) (right : IsRight b.world) (names : LiveNames b) where
  held_there : (n : ℕ) → has b.world.heap.holds n ≡ true → is_there b.world.heap.objects n ≡ true
  held_there n held = (names.closed.holds n held).0

  carried_on : (os : List Object) → Carries (IsRegisteredAs os) (IsRegisteredIn os) AnyCycle b.world
      → AreRegistered b
  carried_on os carries =
      let now : List Object = b.world.heap.objects in
      let still : (notice : Notice) → IsRegisteredIn os notice → is_there now notice.object ≡ true
      → IsRegisteredIn now notice = still_registered os now carries.objects in
      record {
        objects = all_pair (IsRegisteredAs os) (IsRegisteredAs os) AnyObject now (λ x is also. tt) carries.objects
            carries.objects;
        pendings = λ k.
            all_pair (λ x. IsRegisteredIn os (notice_from k x)) (λ x. IsLive b x.object)
            (λ x. IsRegisteredIn now (notice_from k x)) (pending_of b.world k)
            (λ x is live. still (notice_from k x) is live.0) (carries.pendings k) (names.closed.pendings k);
        of_mutators = λ m.
            all_pair (IsRegisteredIn os) (λ x. is_there now x.object ≡ true) (IsRegisteredIn now)
            (hand_of b.world (Mutator m)) still (carries.of_mutators m)
            (all_of_has (λ n. is_there now n ≡ true) (hand_of b.world (Mutator m))
            (λ n h. held_there n (hand_held b.world (Mutator m) right.counted n h)));
        of_workers = λ k.
            all_pair (IsRegisteredIn os) (λ x. is_there now x.object ≡ true) (IsRegisteredIn now)
            (hand_of b.world (Worker k)) still (carries.of_workers k)
            (all_of_has (λ n. is_there now n ≡ true) (hand_of b.world (Worker k))
            (λ n h. held_there n (hand_held b.world (Worker k) right.counted n h)));
        stands = λ q.
            all_pair (IsRegisteredIn os) (λ x. is_there now x.object ≡ true) (IsRegisteredIn now)
            (queue_at b.world q).stands still (carries.stands q)
            (all_of_has (λ n. is_there now n ≡ true) (queue_at b.world q).stands
            (λ n h. held_there n (queue_held b.world q right.counted n h)));
        goes_on = tt;
      }

-- ---- rows

all_without_notices : (P : Notice → Type 0) (notices : List Notice) (ns : List ℕ) → AllByRecursion P notices
    → AllByRecursion P (without_notices notices ns)
all_without_notices P notices [] all = all
all_without_notices P notices (n ∷ ns) all =
    all_without_notices P (without_first object_of notices n) ns (all_without_first P object_of notices n all)

module _ (p : Profile) (a b : State) (names : LiveNames a) (are : AreRegistered a) where
  abbrev O : Object → Type 0
  O = IsRegisteredAs a.world.heap.objects

  abbrev P : Notice → Type 0
  P = IsRegisteredIn a.world.heap.objects

  abbrev Carried : World → Type 0
  Carried = Carries O P AnyCycle

  before : Carried a.world
  before = record {
    objects = at_registered a.world.heap.objects a.world.heap.objects
        (all_at a.world.heap.objects (rising_distinct (numbers a.world.heap.objects) names.rising));
    pendings = are.pendings;
    of_mutators = are.of_mutators;
    of_workers = are.of_workers;
    stands = are.stands;
    goes_on = tt;
  }

  next_new : is_there a.world.heap.objects a.next ≡ true → ⊥
  next_new there = let less = names.below a.next there in omega (arith, less)

  plain_mints : (step : PlainStep) (reply : Reply) → Mints O P AnyCycle a (steps.Plain step) reply
  plain_mints (plain.New m d k) reply = λ is there. absurd (next_new there)
  plain_mints (plain.Refer m strength d s q k) reply = λ is there. absurd (next_new there)
  plain_mints (plain.ClearNext k) reply = λ n q is registered. registered
  plain_mints (plain.Begin now how) reply = λ is. tt
  plain_mints step reply = tt

  mints : (step : Step) (reply : Reply) → Mints O P AnyCycle a step reply
  mints (steps.Plain step) reply = plain_mints step reply
  mints (steps.Unhook m s) reply = λ n q is registered. registered
  mints step reply = tt

  common_carries : (c : State) (row : Row) → IsRow a row c → Carried c.world
  common_carries c row h =
      row_carries O P AnyCycle (as_lasts a.world.heap.objects) a row c (mints row.step row.reply) before h

  anew_carries : (anew : Bool) (step : PlainStep) (reply : Reply) → plain_refusal a step ≡ None
      → AcceptsAnew p anew a step reply b → Carried b.world
  anew_carries true step reply none row =
      subst Carried (sym (ap (λ (s : State). s.world) row.2.1))
      (common_carries row.0 (plain_row step reply) (accepted_plain a row.0 step reply none row.1))
  anew_carries false step reply none row =
      common_carries b (plain_row step reply) (accepted_plain a b step reply none row)

  shown_as : (d : List ℕ) (o : Object) → O o → O (shown d o)
  shown_as d o is =
      elim (cases_Bool (is_new_clear d o)) [
        | inl new ↦ simp new ((as_lasts a.world.heap.objects).clears o is)
        | inr old ↦ simp old is
      ]

  ended_carries : (found : List (List ℕ)) → Carried (mark_ended a (doomed_at a) found).world
  ended_carries found = record {
    objects = all_map {P = O} a.world.heap.objects (shown (doomed_at a)) (shown_as (doomed_at a)) before.objects;
    pendings = before.pendings;
    of_mutators = before.of_mutators;
    of_workers = before.of_workers;
    stands = before.stands;
    goes_on = tt;
  }

  plain_carries : (step : PlainStep) (reply : Reply) → plain_refusal a step ≡ None → PlainAcceptsAs p a step reply b
      → Carried b.world
  plain_carries (plain.Scan k) (replies.Scanned n) none row =
      subst Carried (sym (ap (λ (s : State). s.world) row.2.1 ∙ ticked_world (with_scanned a k n))) before
  plain_carries (plain.Scan k) reply none row =
      common_carries b (plain_row (plain.Scan k) reply) (accepted_plain a b (plain.Scan k) reply none row)
  plain_carries plain.EndMark reply none row =
      subst (λ (s : State). Carried s.world) (sym row.after) (ended_carries row.found)
  plain_carries step reply none row = anew_carries (says_anew a step reply) step reply none row

  took_carries : (m q : ℕ) (ns : List ℕ) → Carried (took a.world m q ns)
  took_carries m q [] = before
  took_carries m q (n ∷ ns) =
      let l : Lists Notice = queue_at a.world q in
      carries_hand O P AnyCycle (with_queue a.world q (taken_out l (n ∷ ns))) (Mutator m)
      (notices_of l.stands (n ∷ ns)) (all_notices_of P l.stands (n ∷ ns) (before.stands q))
      (carries_queue O P AnyCycle a.world q (taken_out l (n ∷ ns))
      (all_without_notices P l.stands (n ∷ ns) (before.stands q)) before)

  polls_carries : (m q : ℕ) (tell : List ℕ → Reply) (taken : List Notice) (reply : Reply)
      → Polls a m q tell taken reply b → Carried b.world
  polls_carries m q tell [] reply row =
      subst Carried (sym (ap (λ (s : State). s.world) row.1 ∙ ticked_world a)) before
  polls_carries m q tell (notice ∷ more) reply row =
      let ns : List ℕ = map object_of (notice ∷ more) in
      subst Carried
      (sym (ap (λ (s : State). s.world) row.1 ∙ ticked_world (with_world a (took a.world m q ns))))
      (took_carries m q ns)

  step_carries : (step : Step) (reply : Reply) → refusal a step ≡ None
      → IsRowAs p a (record { step = step; reply = reply }) b → Carried b.world
  step_carries (steps.Plain step) reply none h =
      plain_carries step reply none (plain_accepted_as p a b step reply none h)
  step_carries (steps.Poll m q) reply none h =
      let row : PollsAs p.order a m q 1 one_taken reply b =
      subst (λ (o : Option Fault). IsAnswerAs p a o (steps.Poll m q) reply b) none h in
      polls_carries m q one_taken row.0 reply row.2
  step_carries (steps.Polls m q max) reply none h =
      let row : PollsAs p.order a m q max replies.TookSome reply b =
      subst (λ (o : Option Fault). IsAnswerAs p a o (steps.Polls m q max) reply b) none h in
      polls_carries m q replies.TookSome row.0 reply row.2
  step_carries step reply none h =
      let row : Row = record { step = step; reply = reply } in common_carries b row (common_row p a b row (inr tt) h)

  row_carried : (row : Row) → IsRowAs p a row b → Carried b.world
  row_carried row h = of_fault (refusal a row.step) refl h
    where
      of_fault : (fault : Option Fault) → refusal a row.step ≡ fault → IsAnswerAs p a fault row.step row.reply b
          → Carried b.world
      of_fault (Some fault) is refused = subst Carried (sym (ap (λ (s : State). s.world) refused.1)) before
      of_fault None is accepted = step_carries row.step row.reply is h

pub lawful_registered : (p : Profile) (config : Config) (a : State) → Lawful p config a → AreRegistered a
lawful_registered p config =
    lawful_holds p config AreRegistered (first_carries AnyObject (IsRegisteredIn []) AnyCycle config tt)
    (λ a b row lawful are h.
    let next : Lawful p config b = lawful_row p config a b row lawful h in
    carried_on b (lawful_right p config b next) (lawful_live p config b next) a.world.heap.objects
    (row_carried p a b (lawful_live p config a lawful) are row h))
