-- Each row leaves in a hand notices for one queue alone, and no more than 32.
use Rattle.ref_base.proofs.Common.{arith, ◌≡◌, ℕ, zero, suc, ◌≤◌, Bool, true, false, if◌then◌else◌, List, [], ◌∷◌}
use Rattle.ref_base.proofs.Common.{map, take, length, Option, Some, None, refl, sym, ap, subst, AllByRecursion, State}
use Rattle.ref_base.proofs.Common.{Notice, Pending, hand_of, pending_of, HandNotices, held_after, with_held}
use Rattle.ref_base.proofs.Common.{with_held_rest, rest_of, not_added, told_notices, told_taken, told_dones, length-map}
use Rattle.ref_base.proofs.Common.{notice_from, batch_of, fits, refusal, Unhooks, one_handed, all_handed, Polls}
use Rattle.ref_base.proofs.Common.{object_of, queue_at, one_taken, is_mutator}
use Rattle.ref_base.specs.declared.cause.Cause.TheVariants.{Cycle}
use Rattle.ref_base.specs.declared.out.Done.{Done}
use Rattle.ref_base.specs.Refusals.{is_worker, is_queue}
use Rattle.ref_base.specs.QueueRows.{HandNotice, given_by, taken_as, filled_with, put_from_hand, is_same_actor}
use Rattle.ref_base.specs.declared.actor.Actor.{Actor}
use Rattle.ref_base.specs.declared.actor.Actor.TheVariants.{Mutator, Worker}
use Rattle.ref_base.specs.declared.fault.Fault.{Fault}
use Rattle.ref_base.specs.declared.row.Row.{Row}
use Rattle.ref_base.specs.declared.reply.Reply.{Reply}
use Rattle.ref_base.specs.declared.reply.Reply.TheVariants as replies
use Rattle.ref_base.specs.declared.step.Step.{Step}
use Rattle.ref_base.specs.declared.step.Step.TheVariants as steps
use Rattle.ref_base.proofs.BatchParts.{all_left, tells_one, tells_all}
use Rattle.ref_base.proofs.Places.{all_rest}
use Rattle.ref_base.proofs.RowForms.{unless_passes}
use Rattle.ref_judge.specs.ProfiledRows.{IsRowAs, IsAnswerAs}
use Rattle.ref_judge.specs.declared.profile.Profile.{Profile}
use Rattle.ref_judge.proofs.ProfiledBases.{takes_few, one_told}

-- they are all for one queue, and few
abbrev pub IsFine : List HandNotice → Type 0
IsFine held = ((q : ℕ) × AllByRecursion (λ x. x.queue ≡ q) held) × (length held ≤ 32)

-- what a row gives into a hand is few
abbrev pub TellsFew : Step → Reply → Type 0
TellsFew (steps.Unhook m s) reply = length (told_notices reply) ≤ 32
TellsFew (steps.Hand k) reply = length (told_notices reply) ≤ 32
TellsFew (steps.Hands k max) reply = length (told_notices reply) ≤ 32
TellsFew (steps.Poll m q) reply = length (told_taken reply) ≤ 32
TellsFew (steps.Polls m q max) reply = length (told_taken reply) ≤ 32
TellsFew step reply = Unit {0}

set_fine : (hands : HandNotices) (who other : Actor) (held : List HandNotice) → IsFine held → IsFine (hands other)
    → IsFine (with_held hands who held other)
set_fine hands who other held fine old = of_same (is_same_actor other who)
  where
    of_same : (same : Bool) → IsFine (if same then held else hands other)
    of_same true = fine
    of_same false = old

filled_fine : (hands : HandNotices) (who other : Actor) (held : List HandNotice) → IsFine held → IsFine (hands other)
    → IsFine (filled_with hands who held other)
filled_fine hands who other [] fine old = old
filled_fine hands who other (x ∷ held) fine old = set_fine hands who other (x ∷ held) fine old

-- the notices that a worker gives at once, and how a hand holds them
abbrev given_for : ℕ → ℕ → ℕ → List ℕ → List Notice
given_for q cycle k ns = map (λ n. record { object = n; queue = q; cause = Cycle cycle k }) ns

abbrev in_hand : List Notice → List HandNotice
in_hand = map (λ x. record { object = x.object; queue = x.queue })

told_fine : (reply : Reply) → length (told_notices reply) ≤ 32 → IsFine (given_by reply)
told_fine (replies.Notice n q cause) few = ((q, (refl, tt)), omega arith)
told_fine (replies.Notices ns q cycle k) few =
    ((q, all_of ns), subst (λ (i : ℕ). i ≤ 32) (sym (length-map (given_for q cycle k ns) _)) few)
  where
    all_of : (ns : List ℕ) → AllByRecursion (λ x. x.queue ≡ q) (in_hand (given_for q cycle k ns))
    all_of [] = tt
    all_of (n ∷ ns) = (refl, all_of ns)
told_fine reply few = ((0, tt), omega arith)

taken_fine : (q : ℕ) (ns : List ℕ) → length ns ≤ 32 → IsFine (map (λ n. record { object = n; queue = q }) ns)
taken_fine q ns few =
    ((q, all_of ns), subst (λ (i : ℕ). i ≤ 32) (sym (length-map ns (λ n. record { object = n; queue = q }))) few)
  where
    all_of : (ns : List ℕ)
        → AllByRecursion (λ (x : HandNotice). x.queue ≡ q) (map (λ n. record { object = n; queue = q }) ns)
    all_of [] = tt
    all_of (n ∷ ns) = (refl, all_of ns)

left_few : (held : List HandNotice) (ds : List Done) → length (not_added held ds) ≤ length held
left_few [] ds = omega arith
left_few (x ∷ held) [] = omega arith
left_few (x ∷ held) (d ∷ ds) = grind (arith, left_few held ds)

put_fine : (hands : HandNotices) (who other : Actor) (ds : List Done) → ((who : Actor) → IsFine (hands who))
    → IsFine (put_from_hand hands who ds other)
put_fine hands who other [] fine = fine other
put_fine hands who other (d ∷ ds) fine =
    let old = fine who in
    let most = old.1 in
    let fewer = left_few (hands who) (d ∷ ds) in
    set_fine hands who other (not_added (hands who) (d ∷ ds))
    ((old.0.0, all_left (λ x. x.queue ≡ old.0.0) (hands who) (d ∷ ds) old.0.1), omega (arith, fewer, most)) (fine other)

rest_few : (held : List HandNotice) → length (rest_of held) ≤ length held
rest_few [] = omega arith
rest_few (x ∷ held) = omega arith

rest_fine : (hands : HandNotices) (who other : Actor) → ((who : Actor) → IsFine (hands who))
    → IsFine (with_held_rest hands who other)
rest_fine hands who other fine =
    let old = fine who in
    let most = old.1 in
    let fewer = rest_few (hands who) in
    set_fine hands who other (rest_of (hands who))
    ((old.0.0, all_rest (λ x. x.queue ≡ old.0.0) (hands who) old.0.1), omega (arith, fewer, most)) (fine other)

-- what hands hold after a row is fine again
pub held_fine : (hands : HandNotices) (step : Step) (reply : Reply) → TellsFew step reply
    → ((who : Actor) → IsFine (hands who)) → (who : Actor) → IsFine (held_after hands step reply who)
held_fine hands (steps.Unhook m s) reply few fine who =
    filled_fine hands (Mutator m) who (given_by reply) (told_fine reply few) (fine who)
held_fine hands (steps.Hand k) reply few fine who =
    filled_fine hands (Worker k) who (given_by reply) (told_fine reply few) (fine who)
held_fine hands (steps.Hands k max) reply few fine who =
    filled_fine hands (Worker k) who (given_by reply) (told_fine reply few) (fine who)
held_fine hands (steps.Poll m q) reply few fine who =
    filled_fine hands (Mutator m) who (taken_as q reply) (taken_fine q (told_taken reply) few) (fine who)
held_fine hands (steps.Polls m q max) reply few fine who =
    filled_fine hands (Mutator m) who (taken_as q reply) (taken_fine q (told_taken reply) few) (fine who)
held_fine hands (steps.Put by) reply few fine who = put_fine hands by who (told_dones reply) fine
held_fine hands (steps.Puts by) reply few fine who = put_fine hands by who (told_dones reply) fine
held_fine hands (steps.Adopt m d) (replies.Object n) few fine who = rest_fine hands (Mutator m) who fine
held_fine hands (steps.Adopt m d) reply few fine who = fine who
held_fine hands (steps.Release by) replies.Done few fine who = rest_fine hands by who fine
held_fine hands (steps.Release by) reply few fine who = fine who
held_fine hands step reply few fine who = fine who

-- ---- what rows tell

few_of_answer : (answer reply : Reply) → reply ≡ answer → length (told_notices answer) ≤ 32
    → length (told_notices reply) ≤ 32
few_of_answer answer reply is few = subst (λ (r : Reply). length (told_notices r) ≤ 32) (sym is) few

unhook_few : (a c : State) (m s : ℕ) (held queue : Option ℕ) (reply : Reply) → Unhooks a m s held queue reply c
    → length (told_notices reply) ≤ 32
unhook_few a c m s None queue reply row = few_of_answer replies.Nothing reply row.0 (omega arith)
unhook_few a c m s (Some n) None reply row = few_of_answer replies.Nothing reply row.0 (omega arith)
unhook_few a c m s (Some n) (Some q) reply row = few_of_answer _ reply row.0 (omega arith)

take_few : {X : Type 0} (count : ℕ) (xs : List X) → length (take count xs) ≤ count
take_few zero xs = omega arith
take_few (suc count) [] = omega arith
take_few (suc count) (x ∷ xs) = let few = take_few count xs in omega (arith, few)

batch_few : (max : ℕ) (ps : List Pending) → length (batch_of max ps) ≤ max
batch_few max [] = omega arith
batch_few max (x ∷ ps) = take_few max _

given_few : (k max : ℕ) (ps : List Pending) (answer reply : Reply) → told_notices answer ≡ map (notice_from k) ps
    → length ps ≤ max → max ≤ 32 → reply ≡ answer → length (told_notices reply) ≤ 32
given_few k max ps answer reply told few most is =
    let same = ap (λ (r : Reply). length (told_notices r)) is in
    let count = ap (λ (ns : List Notice). length ns) told in
    let long = length-map ps (notice_from k) in omega (arith, same, count, long, few, most)

fits_most : (max held : ℕ) → fits max held ≡ true → max ≤ 32
fits_most max held h = grind arith

polled_few : (a b : State) (m q count : ℕ) (tell : List ℕ → Reply) (taken : List Notice) (reply : Reply)
    → told_taken (tell (map object_of taken)) ≡ map object_of taken → length taken ≤ count → count ≤ 32
    → Polls a m q tell taken reply b → length (told_taken reply) ≤ 32
polled_few a b m q count tell [] reply told few most row = of_closed (queue_at a.world q).closed row.0
  where
    of_closed : (shut : Bool) → reply ≡ (if shut then replies.Closed else replies.Empty)
        → length (told_taken reply) ≤ 32
    of_closed true is = subst (λ (r : Reply). length (told_taken r) ≤ 32) (sym is) (omega arith)
    of_closed false is = subst (λ (r : Reply). length (told_taken r) ≤ 32) (sym is) (omega arith)
polled_few a b m q count tell (notice ∷ rest) reply told few most row =
    let same = ap (λ (r : Reply). length (told_taken r)) row.0 in
    let names = ap (λ (ns : List ℕ). length ns) told in
    let long = length-map (notice ∷ rest) object_of in omega (arith, same, names, long, few, most)

module _ (p : Profile) (a b : State) where
  accepted_few : (step : Step) (reply : Reply) → refusal a step ≡ None
      → IsAnswerAs p a None step reply b → TellsFew step reply
  accepted_few (steps.Unhook m s) reply none row = unhook_few a row.0 m s _ _ reply row.1
  accepted_few (steps.Hand k) reply none row =
      let first = take 1 (pending_of a.world k) in
      given_few k 1 first (one_handed k first) reply (tells_one k (pending_of a.world k))
      (take_few 1 (pending_of a.world k)) (omega arith) row.1.0
  accepted_few (steps.Hands k max) reply none row =
      let first = unless_passes (is_worker a.world.heap k) _ _ none in
      let second = unless_passes (fits max (length (hand_of a.world (Worker k)))) _ _ first.1 in
      let some = batch_of max (pending_of a.world k) in
      given_few k max some (all_handed k some) reply (tells_all k max (pending_of a.world k))
      (batch_few max (pending_of a.world k)) (fits_most max (length (hand_of a.world (Worker k))) second.0) row.1.0
  accepted_few (steps.Poll m q) reply none row =
      let few = takes_few p.order 1 (queue_at a.world q).stands row.0 row.1 in
      polled_few a b m q 1 one_taken row.0 reply (one_told row.0 few) few (omega arith) row.2
  accepted_few (steps.Polls m q max) reply none row =
      let first = unless_passes (is_mutator a.world.heap m) _ _ none in
      let second = unless_passes (is_queue a.world.heap q) _ _ first.1 in
      let third = unless_passes (fits max (length (hand_of a.world (Mutator m)))) _ _ second.1 in
      polled_few a b m q max replies.TookSome row.0 reply refl
      (takes_few p.order max (queue_at a.world q).stands row.0 row.1)
      (fits_most max (length (hand_of a.world (Mutator m))) third.0) row.2
  accepted_few step reply none row = tt

  refused_few : (step : Step) (fault : Fault) → TellsFew step (replies.Refused fault)
  refused_few (steps.Unhook m s) fault = omega arith
  refused_few (steps.Hand k) fault = omega arith
  refused_few (steps.Hands k max) fault = omega arith
  refused_few (steps.Poll m q) fault = omega arith
  refused_few (steps.Polls m q max) fault = omega arith
  refused_few step fault = tt

  pub tells_few : (row : Row) → IsRowAs p a row b → TellsFew row.step row.reply
  tells_few row h = of_fault (refusal a row.step) refl h
    where
      of_fault : (fault : Option Fault) → refusal a row.step ≡ fault → IsAnswerAs p a fault row.step row.reply b
          → TellsFew row.step row.reply
      of_fault (Some fault) is refused =
          subst (λ (r : Reply). TellsFew row.step r) (sym refused.0) (refused_few row.step fault)
      of_fault None is accepted = accepted_few row.step row.reply is accepted
