-- In every legal trace each queue has a worker's references in the order in which the worker cleared them.
use Rattle.ref_base.proofs.Common.{arith, ◌≡◌, ℕ, true, List, [], ◌∷◌, ◌++◌, length, Option, Some, None, refl, sym, ap}
use Rattle.ref_base.proofs.Common.{◌∙◌, subst, append_assoc, slice_index_or, slice_set, cases_eq, append-nil}
use Rattle.ref_base.proofs.Common.{get_or-set_same, get_or-set_other, reference_at, registered_in, World, SameOthers}
use Rattle.ref_base.proofs.Common.{first_world, hand_of, heap_step, put_in, after, replayed, without_pending}
use Rattle.ref_base.proofs.Common.{pending_of, State, first_state, refusal, IsAnswer, IsRow, IsRun, is_subsequence}
use Rattle.ref_base.proofs.Common.{IsLegal, is_registered, clearing_order, added_of, Actor, Mutator, Worker}
use Rattle.ref_base.proofs.Common.{Config, Fault, Step, Reply, Row, cleared_in, replayed_from}
use Rattle.ref_base.proofs.Common.{◌<◌, zero, suc, ◌==◌, Bool, false, if◌then◌else◌, inl, inr, map, take, drop, has}
use Rattle.ref_base.proofs.Common.{take-append-drop, eq-eqb, ltb-true, AllByRecursion, Notice, Pending, queue_at}
use Rattle.ref_base.proofs.Common.{notice_from, told_notices, told_dones, taking, handed_on, handed_each, added_among}
use Rattle.ref_base.proofs.Common.{not_added, was_put, object_of, PutsInto, Puts, PutsAll, HandNotices, Done}
use Rattle.ref_base.proofs.Common.{one_handed, all_handed, batch_of, if_registered}
use Rattle.ref_base.specs.Refusals.{is_worker}
use Rattle.ref_base.specs.QueueRows.{HandNotice, put_by, those_for}
use Rattle.ref_base.specs.ClearingOrder.{added_by, added_from, all_worked, is_by}
use Rattle.ref_base.proofs.HasLaws.{has-left}
use Rattle.ref_base.proofs.BatchParts.{map-added, tells_one, tells_all, batch_front}
use Rattle.ref_base.proofs.CountedWorlds.{standing_hands}
use Rattle.ref_base.proofs.QueueLaws.{Goes, held_of}
use Rattle.ref_base.proofs.RowForms.{unless_passes}
use Rattle.ref_base.proofs.RowLaws.{row_goes, all_own_in}
use Rattle.ref_base.proofs.SoundWorlds.{IsSound}
use Rattle.ref_base.proofs.SoundWorlds.{first_sound}
use Rattle.ref_base.proofs.Places.{place_there}
use Rattle.ref_base.proofs.CountedTraces.{legal_counted}
use Rattle.ref_base.proofs.ProvenTraces.{made_more, legal_known}
use Rattle.ref_base.proofs.OutTraces.{legal_others}
use Rattle.ref_base.proofs.RunFronts.{legal_holds}
use Rattle.ref_base.proofs.LegalQueues.{run_sound}
use Rattle.ref_base.proofs.SameOthers.{same_hand}
use Rattle.ref_base.proofs.RowChanges.{pending_after, row_changes}
use Rattle.ref_base.proofs.RowHands.{others_after, row_hands, IsBy}
use Rattle.ref_base.proofs.HandCauses.{HaveCauses, IsOwnOrPut, legal_causes}
use Rattle.ref_base.proofs.Subsequences.{Sub, sub_is}
use Rattle.ref_base.proofs.ClearingShifts.{Shifts, AreIn, Fits, IsPassed, put_at, objects_for, fresh, still, puts}
use Rattle.ref_base.proofs.ClearingShifts.{spends}
use Rattle.ref_base.proofs.ClearingShifts.{passes, released, not_by, at, clears_for, hands_to, shift_core, none_added}
use Rattle.ref_base.proofs.ClearingShifts.{become_fits, untried}
use Rattle.ref_base.proofs.ClearingOrders.{IsOrdered, more_ordered, nothing_waits, in_order}
use Rattle.ref_base.specs.declared.plain_step.PlainStep.TheVariants as plain
use Rattle.ref_base.specs.declared.step.Step.TheVariants as steps
use Rattle.ref_base.specs.declared.reply.Reply.TheVariants as replies

-- ---- a hand is put in

worker_hand_kept : (w : World) (m k : ℕ) (ds : List Done)
    → hand_of (put_in w (Mutator m) ds) (Worker k) ≡ hand_of w (Worker k)
worker_hand_kept w m k [] = refl
worker_hand_kept w m k (d ∷ ds) =
    ap (λ (v : World). slice_index_or v.worker_hands k [])
    (standing_hands w (added_among (hand_of w (Mutator m)) (d ∷ ds)))

worker_hand_set : (w : World) (j k : ℕ) (d : Done) (ds : List Done)
    → hand_of (put_in w (Worker j) (d ∷ ds)) (Worker k)
    ≡ slice_index_or (slice_set w.worker_hands j (not_added (hand_of w (Worker j)) (d ∷ ds))) k []
worker_hand_set w j k d ds =
    ap (λ (v : World). slice_index_or (slice_set v.worker_hands j (not_added (hand_of w (Worker j)) (d ∷ ds))) k [])
    (standing_hands w (added_among (hand_of w (Worker j)) (d ∷ ds)))

-- a hand that is set is so, also where there is none, if that is empty
set_here : (hands : List (List Notice)) (k : ℕ) (hand : List Notice)
    → (slice_index_or hands k [] ≡ [] → hand ≡ []) → slice_index_or (slice_set hands k hand) k [] ≡ hand
set_here [] k hand none = sym (none refl)
set_here (h ∷ hands) zero hand none = refl
set_here (h ∷ hands) (suc k) hand none = set_here hands k hand none

own_passed : (w : World) (k q : ℕ) (hand : List Notice) → AllByRecursion (IsOwnOrPut w) hand
    → AllByRecursion (IsPassed k q (put_at w q)) hand
own_passed w k q [] all = tt
own_passed w k q (x ∷ hand) all = (
  elim all.0 [
    | inl own ↦ inl (ap (is_by k) own)
    | inr was ↦ inr (λ is. subst (λ r. has (put_at w r) x.object ≡ true) is was)
  ],
  own_passed w k q hand all.1,
)

other_passed : (w : World) (k j q : ℕ) (hand : List Notice) → (k ≡ j → ⊥) → AllByRecursion (IsBy j) hand
    → AllByRecursion (IsPassed k q (put_at w q)) hand
other_passed w k j q [] other all = tt
other_passed w k j q (x ∷ hand) other all =
    (inl (not_by k j x.cause other all.0), other_passed w k j q hand other all.1)

module _ (k q : ℕ) (a b : State) (ds : List Done) (pends : b.world.pending ≡ a.world.pending)
    (grows : AreIn (put_at a.world q) (put_at b.world q)) where
  puts_by : (who : Actor) → HaveCauses a.world → Fits q (put_at a.world q) (hand_of a.world who) ds
      → hand_of b.world (Worker k) ≡ hand_of (put_in a.world who ds) (Worker k)
      → put_at b.world q ≡ put_at a.world q ++ objects_for q (added_among (hand_of a.world who) ds)
      → Shifts k q a.world b.world (all_worked k q (added_among (hand_of a.world who) ds)) []
  puts_by (Mutator m) have fits hands now =
      let hand : List Notice = hand_of a.world (Mutator m) in
      passes k q a.world b.world (all_worked k q (added_among hand ds)) []
      (none_added k q (put_at a.world q) hand ds fits (own_passed a.world k q hand (have (Mutator m))))
      (still k q a.world b.world [] grows (hands ∙ worker_hand_kept a.world m k ds) (at a.world b.world k pends))
  puts_by (Worker j) have fits hands now =
      let hand : List Notice = hand_of a.world (Worker j) in
      elim (cases_eq k j) [
        | inl same ↦
            subst (λ i. hand_of b.world (Worker k) ≡ hand_of (put_in a.world (Worker i) ds) (Worker k)
            → Fits q (put_at a.world q) (hand_of a.world (Worker i)) ds
            → put_at b.world q ≡ put_at a.world q ++ objects_for q (added_among (hand_of a.world (Worker i)) ds)
            → Shifts k q a.world b.world (all_worked k q (added_among (hand_of a.world (Worker i)) ds)) []) same
            own hands fits now
        | inr other ↦
            passes k q a.world b.world (all_worked k q (added_among hand ds)) []
            (none_added k q (put_at a.world q) hand ds fits (other_passed a.world k j q hand other (have (Worker j))))
            (still k q a.world b.world [] grows (hands ∙ apart ds other) (at a.world b.world k pends))
      ]
    where
      apart : (es : List Done) → (k ≡ j → ⊥)
          → hand_of (put_in a.world (Worker j) es) (Worker k) ≡ hand_of a.world (Worker k)
      apart [] other = refl
      apart (d ∷ es) other =
          worker_hand_set a.world j k d es
          ∙ get_or-set_other a.world.worker_hands j k (not_added (hand_of a.world (Worker j)) (d ∷ es)) [] other

      here : (es : List Done)
          → hand_of (put_in a.world (Worker k) es) (Worker k) ≡ not_added (hand_of a.world (Worker k)) es
      here [] = sym (untried (hand_of a.world (Worker k))).1
      here (d ∷ es) =
          worker_hand_set a.world k k d es
          ∙ set_here a.world.worker_hands k (not_added (hand_of a.world (Worker k)) (d ∷ es))
          (λ none. ap (λ (h : List Notice). not_added h (d ∷ es)) none)

      own : hand_of b.world (Worker k) ≡ hand_of (put_in a.world (Worker k) ds) (Worker k)
          → Fits q (put_at a.world q) (hand_of a.world (Worker k)) ds
          → put_at b.world q ≡ put_at a.world q ++ objects_for q (added_among (hand_of a.world (Worker k)) ds)
          → Shifts k q a.world b.world (all_worked k q (added_among (hand_of a.world (Worker k)) ds)) []
      own hands fits now =
          let hand : List Notice = hand_of a.world (Worker k) in
          puts k q a.world b.world (all_worked k q (added_among hand ds)) (not_added hand ds) (hands ∙ here ds)
          (at a.world b.world k pends)
          (subst (λ ns. Sub (all_worked k q (added_among hand ds) ++ fresh ns k q (not_added hand ds))
          (fresh (put_at a.world q) k q hand)) (sym now) (shift_core k q (put_at a.world q) hand ds fits))

-- ---- what a put tells fits

put_into_fits : (a b : State) (q : ℕ) (who : Actor) (notice : Notice) (rest : List Notice) (again shut : Bool)
    (reply : Reply) → was_put object_of (queue_at a.world notice.queue) notice ≡ again
    → PutsInto again shut a who notice rest reply b
    → Fits q (put_at a.world q) (notice ∷ rest) (told_dones reply)
put_into_fits a b q who notice rest true shut reply is row =
    subst (λ (r : Reply). Fits q (put_at a.world q) (notice ∷ rest) (told_dones r)) (sym row.0) tt
put_into_fits a b q who notice rest false true reply is row =
    subst (λ (r : Reply). Fits q (put_at a.world q) (notice ∷ rest) (told_dones r)) (sym row.0) tt
put_into_fits a b q who notice rest false false reply is row =
    let fits : List Done → Type 0 = Fits q (put_at a.world q) (notice ∷ rest) in
    elim row [
      | inl added ↦
          subst (λ (r : Reply). fits (told_dones r)) (sym added.0)
          (λ here. subst (λ i. has (put_at a.world i) notice.object ≡ false) here is, tt)
      | inr refused ↦ subst (λ (r : Reply). fits (told_dones r)) (sym refused.0) tt
    ]

put_fits : (a b : State) (q : ℕ) (who : Actor) (hand : List Notice) (reply : Reply) → Puts a who hand reply b
    → Fits q (put_at a.world q) hand (told_dones reply)
put_fits a b q who [] reply row = absurd row
put_fits a b q who (notice ∷ rest) reply row = put_into_fits a b q who notice rest _ _ reply refl row

one_fits : (a b : State) (q : ℕ) (who : Actor) (reply : Reply) (fault : Option Fault)
    → IsAnswer a fault (steps.Put who) reply b → Fits q (put_at a.world q) (hand_of a.world who) (told_dones reply)
one_fits a b q who reply (Some fault) row =
    subst (λ (r : Reply). Fits q (put_at a.world q) (hand_of a.world who) (told_dones r)) (sym row.0) tt
one_fits a b q who reply None row = put_fits a b q who (hand_of a.world who) reply row

puts_fit : (a b : State) (q : ℕ) (who : Actor) (hand : List Notice) (reply : Reply) → PutsAll a who hand reply b
    → Fits q (put_at a.world q) hand (told_dones reply)
puts_fit a b q who [] reply row = absurd row
puts_fit a b q who (notice ∷ rest) reply row =
    subst (λ (r : Reply). Fits q (put_at a.world q) (notice ∷ rest) (told_dones r)) (sym row.3.0)
    (become_fits q notice.queue (put_at a.world q) (queue_at a.world notice.queue) (notice ∷ rest) row.0.done
    (λ own. ap (put_at a.world) (sym own)) (refl, all_own_in notice.queue rest row.1) row.2.2 row.2.3)

some_fit : (a b : State) (q : ℕ) (who : Actor) (reply : Reply) (fault : Option Fault)
    → IsAnswer a fault (steps.Puts who) reply b → Fits q (put_at a.world q) (hand_of a.world who) (told_dones reply)
some_fit a b q who reply (Some fault) row =
    subst (λ (r : Reply). Fits q (put_at a.world q) (hand_of a.world who) (told_dones r)) (sym row.0) tt
some_fit a b q who reply None row = puts_fit a b q who (hand_of a.world who) reply row

-- ---- what is handed on

-- what is left pending of worker j, and of another
handed_left : (w : World) (j : ℕ) (ps rest : List Pending) → pending_of w j ≡ ps ++ rest
    → pending_of (handed_each w j (map (notice_from j) ps)) j ≡ rest
handed_left w j [] rest is = is
handed_left w j (p ∷ ps) rest is =
    let there : j < length w.pending =
    place_there w.pending j [] (λ none. let no = sym is ∙ none in absurd cc) in
    let left : without_pending (pending_of w j) p.object ≡ ps ++ rest =
    ap (λ (xs : List Pending). without_pending xs p.object) is
    ∙ (let own : (p.object == p.object) ≡ true = eq-eqb p.object p.object refl in rw own refl) in
    handed_left (handed_on w j p.object) j ps rest
    (get_or-set_same w.pending j (without_pending (pending_of w j) p.object) [] there ∙ left)

handed_other : (w : World) (j k : ℕ) (notices : List Notice) → (k ≡ j → ⊥)
    → pending_of (handed_each w j notices) k ≡ pending_of w k
handed_other w j k [] other = refl
handed_other w j k (x ∷ rest) other =
    handed_other (handed_on w j x.object) j k rest other
    ∙ get_or-set_other w.pending j k (without_pending (pending_of w j) x.object) [] other

module _ (k q : ℕ) (a b : State) (j : ℕ) (grows : AreIn (put_at a.world q) (put_at b.world q)) where
  handed_shifts : (ps rest : List Pending) → j < length a.world.worker_hands → pending_of a.world j ≡ ps ++ rest
      → hand_of b.world (Worker k) ≡ hand_of (taking a.world (Worker j) (map (notice_from j) ps)) (Worker k)
      → b.world.pending ≡ (handed_each a.world j (map (notice_from j) ps)).pending → Shifts k q a.world b.world [] []
  handed_shifts [] rest within is hands pends = still k q a.world b.world [] grows hands (at a.world b.world k pends)
  handed_shifts (p ∷ ps) rest within is hands pends =
      let notices : List Notice = map (notice_from j) (p ∷ ps) in
      let now : pending_of b.world k ≡ pending_of (handed_each a.world j notices) k =
      ap (λ (all : List (List Pending)). slice_index_or all k []) pends in
      elim (cases_eq k j) [
        | inl same ↦
            hands_to k q a.world b.world (p ∷ ps) rest (ap (pending_of a.world) same ∙ is)
            (hands ∙ ap (λ i. slice_index_or (slice_set a.world.worker_hands j notices) i []) same
            ∙ get_or-set_same a.world.worker_hands j notices [] within
            ∙ ap (λ i. map (notice_from i) (p ∷ ps)) (sym same))
            (now ∙ ap (pending_of (handed_each a.world j notices)) same ∙ handed_left a.world j (p ∷ ps) rest is)
        | inr other ↦
            still k q a.world b.world [] grows
            (hands ∙ get_or-set_other a.world.worker_hands j k notices [] other)
            (now ∙ handed_other a.world j k notices other)
      ]

  -- a refused hand moves nothing
  refused_shifts : (step : Step) (reply : Reply) (fault : Fault) → reply ≡ replies.Refused fault
      → hand_of b.world (Worker k) ≡ hand_of (taking a.world (Worker j) (told_notices reply)) (Worker k)
      → b.world.pending ≡ (handed_each a.world j (told_notices reply)).pending → Shifts k q a.world b.world [] []
  refused_shifts step reply fault is hands pends =
      still k q a.world b.world [] grows
      (hands ∙ ap (λ (r : Reply). hand_of (taking a.world (Worker j) (told_notices r)) (Worker k)) is)
      (at a.world b.world k (pends ∙ ap (λ (r : Reply). (handed_each a.world j (told_notices r)).pending) is))

  some_shifts : (answer : Reply) (ps rest : List Pending) (reply : Reply) → j < length a.world.worker_hands
      → pending_of a.world j ≡ ps ++ rest → told_notices answer ≡ map (notice_from j) ps → reply ≡ answer
      → hand_of b.world (Worker k) ≡ hand_of (taking a.world (Worker j) (told_notices reply)) (Worker k)
      → b.world.pending ≡ (handed_each a.world j (told_notices reply)).pending → Shifts k q a.world b.world [] []
  some_shifts answer ps rest reply within is tells told hands pends =
      let all : told_notices reply ≡ map (notice_from j) ps = ap told_notices told ∙ tells in
      handed_shifts ps rest within is
      (hands ∙ ap (λ (ns : List Notice). hand_of (taking a.world (Worker j) ns) (Worker k)) all)
      (pends ∙ ap (λ (ns : List Notice). (handed_each a.world j ns).pending) all)

  hand_shifts : (reply : Reply) (fault : Option Fault) → refusal a (steps.Hand j) ≡ fault
      → length a.world.worker_hands ≡ a.world.heap.config.workers → IsAnswer a fault (steps.Hand j) reply b
      → hand_of b.world (Worker k) ≡ hand_of (taking a.world (Worker j) (told_notices reply)) (Worker k)
      → b.world.pending ≡ (handed_each a.world j (told_notices reply)).pending → Shifts k q a.world b.world [] []
  hand_shifts reply (Some fault) is sound row hands pends =
      refused_shifts (steps.Hand j) reply fault row.0 hands pends
  hand_shifts reply None is sound row hands pends =
      let ps : List Pending = pending_of a.world j in
      let first = unless_passes (is_worker a.world.heap j) _ _ is in
      some_shifts (one_handed j (take 1 ps)) (take 1 ps) (drop 1 ps) reply
      (rw sound (ltb-true j a.world.heap.config.workers first.0)) (sym (take-append-drop 1 ps)) (tells_one j ps)
      row.1.0 hands pends

  hands_shift : (max : ℕ) (reply : Reply) (fault : Option Fault) → refusal a (steps.Hands j max) ≡ fault
      → length a.world.worker_hands ≡ a.world.heap.config.workers → IsAnswer a fault (steps.Hands j max) reply b
      → hand_of b.world (Worker k) ≡ hand_of (taking a.world (Worker j) (told_notices reply)) (Worker k)
      → b.world.pending ≡ (handed_each a.world j (told_notices reply)).pending → Shifts k q a.world b.world [] []
  hands_shift max reply (Some fault) is sound row hands pends =
      refused_shifts (steps.Hands j max) reply fault row.0 hands pends
  hands_shift max reply None is sound row hands pends =
      let ps : List Pending = pending_of a.world j in
      let first = unless_passes (is_worker a.world.heap j) _ _ is in
      let front = batch_front max ps in
      some_shifts (all_handed j (batch_of max ps)) (batch_of max ps) front.0 reply
      (rw sound (ltb-true j a.world.heap.config.workers first.0)) front.1 (tells_all j max ps) row.1.0 hands pends

-- ---- rows

-- what was put in stays so
grown : {v w : World} {step : Step} {reply : Reply} (q : ℕ) → Goes v w step reply → AreIn (put_at v q) (put_at w q)
grown {v} {w} {step} {reply} q goes n is =
    ap (λ ns. has ns n) (goes.queue q).put
    ∙ has-left (put_at v q) (put_by (held_of v) q step reply) n is

-- a row that puts a hand in, where that fits
put_shifts : (k q : ℕ) (a b : State) (who : Actor) (step : Step) (reply : Reply) → IsSound a.world
    → HaveCauses a.world → Goes a.world b.world step reply → b.world.pending ≡ a.world.pending
    → hand_of b.world (Worker k) ≡ hand_of (put_in a.world who (told_dones reply)) (Worker k)
    → Fits q (put_at a.world q) (hand_of a.world who) (told_dones reply)
    → ((hands : HandNotices) → put_by hands q step reply ≡ those_for q (added_among (hands who) (told_dones reply)))
    → Shifts k q a.world b.world (all_worked k q (added_among (hand_of a.world who) (told_dones reply))) []
put_shifts k q a b who step reply sound have goes pends hands fits puts_it =
    let hand : List Notice = hand_of a.world who in
    let ds : List Done = told_dones reply in
    let now : put_at b.world q ≡ put_at a.world q ++ objects_for q (added_among hand ds) =
    (goes.queue q).put
    ∙ ap (λ ns. put_at a.world q ++ ns)
    (puts_it (held_of a.world)
    ∙ ap (those_for q) (sym (map-added {Y = HandNotice} (λ x. record { object = x.object; queue = x.queue }) hand
    ds))) in
    puts_by k q a b ds pends (grown q goes) who have fits hands now

step_shifts : (whole : List Row) (k q : ℕ) (a b : State) (step : Step) (reply : Reply) → IsSound a.world
    → HaveCauses a.world
    → ((n i : ℕ) → registered_in (reference_at a.world.heap n) ≡ Some i → is_registered whole n i ≡ true)
    → IsAnswer a (refusal a step) step reply b → Goes a.world b.world step reply
    → b.world.pending ≡ pending_after a.world (heap_step a.world step) reply
    → hand_of b.world (Worker k) ≡ hand_of (others_after a.world step reply) (Worker k)
    → Shifts k q a.world b.world (added_by a.world k q step reply)
    (cleared_in whole k q (record { step = step; reply = reply } ∷ []))
step_shifts whole k q a b (steps.Put who) reply sound have made row goes pends hands =
    put_shifts k q a b who (steps.Put who) reply sound have goes pends hands
    (one_fits a b q who reply (refusal a (steps.Put who)) row) (λ _. refl)
step_shifts whole k q a b (steps.Puts who) reply sound have made row goes pends hands =
    put_shifts k q a b who (steps.Puts who) reply sound have goes pends hands
    (some_fit a b q who reply (refusal a (steps.Puts who)) row) (λ _. refl)
step_shifts whole k q a b (steps.Hand j) reply sound have made row goes pends hands =
    hand_shifts k q a b j (grown q goes) reply (refusal a (steps.Hand j)) refl sound.worker_hands row hands pends
step_shifts whole k q a b (steps.Hands j max) reply sound have made row goes pends hands =
    hands_shift k q a b j (grown q goes) max reply (refusal a (steps.Hands j max)) refl sound.worker_hands row hands
    pends
step_shifts whole k q a b (steps.Plain (plain.ClearNext j)) (replies.Cleared n) sound have made row goes pends hands =
    rw (append-nil (if_registered whole q (if j == k then Some n else None)))
    (clears_for whole k q j n a.world b.world (registered_in (reference_at a.world.heap n)) (made n) (grown q goes)
    hands
    pends)
step_shifts whole k q a b step reply sound have made row goes pends hands =
    let grows = grown q goes in grind (arith, still, spends, released, at)

-- ---- legal traces

row_shifts : (config : Config) (past : List Row) (a : State) (row : Row) (b : State) (k q : ℕ)
    → IsRun (first_state config) past a → IsRow a row b
    → Shifts k q a.world b.world (added_by a.world k q row.step row.reply)
    (cleared_in (past ++ row ∷ []) k q (row ∷ []))
row_shifts config past a row b k q run h =
    let sound = run_sound (first_state config) past a (first_sound config) run in
    step_shifts (past ++ row ∷ []) k q a b row.step row.reply sound (legal_causes config past a run)
    (made_more past (row ∷ []) a.world (legal_known config past a run)) h (row_goes a row b sound h)
    (row_changes a row b (legal_counted config past a run) h).pending
    (same_hand (others_after a.world row.step row.reply) b.world (Worker k)
    (row_hands a b row.step row.reply (refusal a row.step) h))

same_adds : (v w : World) (k q : ℕ) (step : Step) (reply : Reply) → SameOthers v w
    → added_by w k q step reply ≡ added_by v k q step reply
same_adds v w k q (steps.Put who) reply is =
    ap (λ (h : List Notice). all_worked k q (added_among h (told_dones reply))) (same_hand v w who is)
same_adds v w k q (steps.Puts who) reply is =
    ap (λ (h : List Notice). all_worked k q (added_among h (told_dones reply))) (same_hand v w who is)
same_adds v w k q step reply is = refl

added_last : (w : World) (k q : ℕ) (past : List Row) (row : Row)
    → added_from w k q (past ++ row ∷ []) ≡ added_from w k q past
    ++ added_by (replayed_from w past) k q row.step row.reply
added_last w k q [] row = append-nil (added_by w k q row.step row.reply)
added_last w k q (other ∷ past) row = search (append_assoc, added_last (after w other.step other.reply) k q past row)

row_ordered : (config : Config) (k q : ℕ) (past : List Row) (a : State) (row : Row) (b : State)
    → IsRun (first_state config) past a → IsOrdered k q (added_of config k q past) past a.world → IsRow a row b
    → IsOrdered k q (added_of config k q (past ++ row ∷ [])) (past ++ row ∷ []) b.world
row_ordered config k q past a row b run ordered h =
    subst (λ added. IsOrdered k q added (past ++ row ∷ []) b.world)
    (ap (λ adds. added_of config k q past ++ adds)
    (same_adds (replayed config past) a.world k q row.step row.reply (legal_others config past a run))
    ∙ sym (added_last (first_world config) k q past row))
    (more_ordered k q (added_of config k q past) (added_by a.world k q row.step row.reply) past (row ∷ []) a.world
    b.world ordered (row_shifts config past a row b k q run h))

-- each queue has a worker's references in the order in which it cleared them
pub legal_in_order : (config : Config) (rows : List Row) (k q : ℕ) → IsLegal config rows
    → is_subsequence (added_of config k q rows) (clearing_order rows k q) ≡ true
legal_in_order config rows k q legal =
    sub_is (added_of config k q rows) (clearing_order rows k q)
    (in_order k q (added_of config k q rows) rows legal.0.world
    (legal_holds config (λ past a. IsOrdered k q (added_of config k q past) past a.world) (row_ordered config k q)
    (nothing_waits config k q) rows legal.0 legal.1))
