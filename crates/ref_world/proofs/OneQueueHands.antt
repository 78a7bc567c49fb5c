-- The notices of one hand are for one queue, after every row.
use Rattle.ref_world.proofs.Common.{ℕ, Bool, true, false, List, [], ◌∷◌, refl, sym, subst}
use Rattle.ref_world.proofs.Common.{slice_index_or, told_notices, Notice, hand_of, State, IsRow, Actor}
use Rattle.ref_world.proofs.Common.{Mutator, Worker, Reply, Row, Step, refusal, Config}
use Rattle.std.proofs.Common.{if◌then◌else◌, map, replicate}
use Rattle.std.specs.Prelude.{is_some}
use Rattle.std.specs.List.{AllByRecursion}
use Rattle.ref_base.specs.HeapSteps.{handed, taking, with_rest}
use Rattle.ref_base.specs.Members.{rest_of}
use Rattle.ref_base.specs.QueueBatches.{added_among, not_added}
use Rattle.ref_base.specs.Replay.{put_in, standing, took, taken_out, notices_of, closed_queue}
use Rattle.ref_base.specs.Told.{told_object, told_dones, told_taken, is_done}
use Rattle.ref_base.specs.Worlds.{World, with_hand, with_queue, queue_at}
use Rattle.ref_base.specs.declared.cause.Cause.TheVariants.{Cycle}
use Rattle.ref_base.specs.declared.out.Done.{Done}
use Rattle.ref_base.proofs.BatchParts.{all_left}
use Rattle.ref_base.proofs.CarryRows.{all_notices_of}
use Rattle.ref_base.proofs.Places.{set_each, all_rest, same_at}
use Rattle.ref_base.proofs.RowHands.{others_after, row_hands}
use Rattle.ref_base.proofs.SoundWorlds.{IsOwn, IsSound}
use Rattle.ref_base.specs.declared.reply.Reply.TheVariants as replies
use Rattle.ref_base.specs.declared.step.Step.TheVariants as steps

-- these are for one queue
abbrev pub OfOne : List Notice → Type 0
OfOne notices = (q : ℕ) × AllByRecursion (IsOwn q) notices

-- and so are each hand's
pub record AreOfOne (mutators workers : List (List Notice)) : Type 0 where
  pub of_mutators : (m : ℕ) → OfOne (slice_index_or mutators m [])
  pub of_workers : (k : ℕ) → OfOne (slice_index_or workers k [])

abbrev pub HandsOfOne : World → Type 0
HandsOfOne w = AreOfOne w.mutator_hands w.worker_hands

pub of_one_queue : (w : World) (who : Actor) → HandsOfOne w → OfOne (hand_of w who)
of_one_queue w (Mutator m) are = are.of_mutators m
of_one_queue w (Worker k) are = are.of_workers k

-- ---- one hand that changes

hand_becomes : (w : World) (who : Actor) (hand : List Notice) → OfOne hand → HandsOfOne w
    → HandsOfOne (with_hand w who hand)
hand_becomes w (Mutator m) hand is are = record {
  of_mutators = set_each (λ _ h. OfOne h) w.mutator_hands m hand (λ _. []) is are.of_mutators;
  of_workers = are.of_workers;
}
hand_becomes w (Worker k) hand is are = record {
  of_mutators = are.of_mutators;
  of_workers = set_each (λ _ h. OfOne h) w.worker_hands k hand (λ _. []) is are.of_workers;
}

-- what is told of one queue and one cycle
told_of_queue : (q cycle k : ℕ) (ns : List ℕ)
    → AllByRecursion (IsOwn q) (map (λ n. record { object = n; queue = q; cause = Cycle cycle k }) ns)
told_of_queue q cycle k [] = tt
told_of_queue q cycle k (n ∷ ns) = (refl, told_of_queue q cycle k ns)

told_of_one : (reply : Reply) → OfOne (told_notices reply)
told_of_one (replies.Notice n q cause) = (q, (refl, tt))
told_of_one (replies.Notices ns q cycle k) = (q, told_of_queue q cycle k ns)
told_of_one reply = (0, tt)

given : (w : World) (who : Actor) (notices : List Notice) → OfOne notices → HandsOfOne w
    → HandsOfOne (taking w who notices)
given w who [] is are = are
given w who (notice ∷ rest) is are = hand_becomes w who (notice ∷ rest) is are

spent : (w : World) (who : Actor) (told : Bool) → HandsOfOne w → HandsOfOne (if told then with_rest w who else w)
spent w who true are =
    let hand = of_one_queue w who are in
    hand_becomes w who (rest_of (hand_of w who)) (hand.0, all_rest (IsOwn hand.0) (hand_of w who) hand.1) are
spent w who false are = are

handed_on : (w : World) (step : Step) (reply : Reply) → HandsOfOne w → HandsOfOne (handed w step reply)
handed_on w (steps.Unhook m s) reply are = given w (Mutator m) (told_notices reply) (told_of_one reply) are
handed_on w (steps.Hand k) reply are = given w (Worker k) (told_notices reply) (told_of_one reply) are
handed_on w (steps.Hands k max) reply are = given w (Worker k) (told_notices reply) (told_of_one reply) are
handed_on w (steps.Adopt m d) reply are = spent w (Mutator m) (is_some (told_object reply)) are
handed_on w (steps.Release who) reply are = spent w who (is_done reply) are
handed_on w step reply are = are

-- ---- queues

-- what comes to stand leaves the hands
stands : (w : World) (notices : List Notice) → HandsOfOne w → HandsOfOne (standing w notices)
stands w [] are = are
stands w (notice ∷ rest) are = stands (with_queue w notice.queue _) rest are

puts : (w : World) (who : Actor) (ds : List Done) → HandsOfOne w → HandsOfOne (put_in w who ds)
puts w who [] are = are
puts w who (d ∷ ds) are =
    let hand = of_one_queue w who are in
    hand_becomes (standing w (added_among (hand_of w who) (d ∷ ds))) who (not_added (hand_of w who) (d ∷ ds))
    (hand.0, all_left (IsOwn hand.0) (hand_of w who) (d ∷ ds) hand.1)
    (stands w (added_among (hand_of w who) (d ∷ ds)) are)

-- what stands in a queue is for it
takes : (w : World) (m q : ℕ) (ns : List ℕ) → IsSound w → HandsOfOne w → HandsOfOne (took w m q ns)
takes w m q [] sound are = are
takes w m q (n ∷ ns) sound are =
    hand_becomes (with_queue w q (taken_out (queue_at w q) (n ∷ ns))) (Mutator m)
    (notices_of (queue_at w q).stands (n ∷ ns))
    (q, all_notices_of (IsOwn q) (queue_at w q).stands (n ∷ ns) (sound.own q)) are

closes : (w : World) (q : ℕ) (told : Bool) → HandsOfOne w → HandsOfOne (if told then closed_queue w q else w)
closes w q true are = are
closes w q false are = are

-- ---- rows

others : (w : World) (step : Step) (reply : Reply) → IsSound w → HandsOfOne w → HandsOfOne (others_after w step reply)
others w (steps.Put who) reply sound are = puts w who (told_dones reply) are
others w (steps.Puts who) reply sound are = puts w who (told_dones reply) are
others w (steps.Poll m q) reply sound are = takes w m q (told_taken reply) sound are
others w (steps.Polls m q max) reply sound are = takes w m q (told_taken reply) sound are
others w (steps.Close m q) reply sound are = closes w q (is_done reply) are
others w step reply sound are = handed_on w step reply are

pub row_of_one : (a : State) (row : Row) (b : State) → IsSound a.world → HandsOfOne a.world → IsRow a row b
    → HandsOfOne b.world
row_of_one a row b sound are is =
    let same = row_hands a b row.step row.reply (refusal a row.step) is in
    let kept : HandsOfOne (others_after a.world row.step row.reply) = others a.world row.step row.reply sound are in
    subst (λ (hs : List (List Notice)). AreOfOne hs b.world.worker_hands) (sym same.mutators)
    (subst (λ (hs : List (List Notice)). AreOfOne (others_after a.world row.step row.reply).mutator_hands hs)
    (sym same.workers) kept)

-- hands that hold nothing
pub none_of_one : (config : Config) → AreOfOne (replicate config.mutators []) (replicate config.workers [])
none_of_one config = record {
  of_mutators = λ m. subst OfOne (sym (same_at {X = List Notice} [] config.mutators m)) (0, tt);
  of_workers = λ k. subst OfOne (sym (same_at {X = List Notice} [] config.workers k)) (0, tt);
}
