-- The history of a heap: each worker hands references on in the order in which it cleared them.
use Rattle.ref_share.proofs.Common.{◌≡◌, ℕ, true, List, [], ◌∷◌, ◌++◌, Some, inl, inr, refl, sym, ap, ◌∙◌, subst}
use Rattle.ref_share.proofs.Common.{map, slice_index_or, eq-eqb, append-nil, append_assoc, is_subsequence, State, has}
use Rattle.ref_share.proofs.Common.{reference_at, NamedStep, told_notices, clearing_order, Pending, World, pending_of}
use Rattle.ref_share.proofs.Common.{Config, Fault, Reply, Row, as_notice, told_reply, GivesOut, HeapAnswer, HeapEntry}
use Rattle.ref_share.proofs.Common.{IsHeapRun, world_step, row_of, rows_of, handed_of, handed_in, hand_of, Worker}
use Rattle.ref_share.proofs.Common.{new_queue, notices_of_hand}
use Rattle.ref_base.specs.Heaps.{registered_in}
use Rattle.ref_base.specs.ClearingOrder.{if_worked, all_worked}
use Rattle.ref_base.specs.QueueLists.{Lists, enqueued}
use Rattle.ref_base.specs.Replay.{handed_on, handed_each}
use Rattle.ref_base.specs.Worlds.{Notice, SameOthers, notice_from, object_of}
use Rattle.ref_base.specs.WorkerOrder.{is_registered, cleared_in}
use Rattle.ref_base.proofs.ClearingShifts.{AreIn, Shifts, all_for, put_at, waiting, waiting_in, still, at}
use Rattle.ref_base.proofs.ClearingShifts.{clears_for, given_first, passes}
use Rattle.ref_base.proofs.ClearingOrders.{IsOrdered, more_ordered, nothing_waits, in_order}
use Rattle.ref_base.proofs.HeapRowLaws.{row_others}
use Rattle.ref_base.proofs.ProvenTraces.{made_more}
use Rattle.ref_base.proofs.RowChanges.{Changes, heap_tells}
use Rattle.ref_base.proofs.HeapTurns.{heap_kind}
use Rattle.ref_base.proofs.SameOthers.{same_hand}
use Rattle.ref_base.proofs.Subsequences.{Sub, sub_longer, sub_is}
use Rattle.ref_share.proofs.HandedNotices.{GivesFront, one_is_told, some_are_told, one_of_front, some_of_front}
use Rattle.ref_share.proofs.HandedNotices.{left_pending, then_pending, refused_gives}
use Rattle.ref_share.proofs.HeapRows.{rows_last, gathered_last, HandsFree}
use Rattle.ref_share.proofs.HeapRuns.{IsAccepted, IsCall, run_holds}
use Rattle.ref_share.proofs.ProvenRuns.{IsFrom, run_from}
use Rattle.ref_base.specs.declared.heap_step.HeapStep.TheVariants as heap
use Rattle.ref_base.specs.declared.plain_step.PlainStep.TheVariants as plain
use Rattle.ref_base.specs.declared.reply.Reply.TheVariants as told
use Rattle.ref_world.specs.declared.heap_machine.HeapReply.TheVariants as replies

-- ---- calls

-- what worker j hands on, of what waits to be added of worker k
given_each : (k q j : ℕ) (v : World) (front rest : List Pending) → pending_of v j ≡ front ++ rest
    → all_for q (pending_of v k)
    ≡ all_worked k q (map (notice_from j) front)
    ++ all_for q (pending_of (handed_each v j (map (notice_from j) front)) k)
given_each k q j v [] rest is = refl
given_each k q j v (p ∷ front) rest is =
    let next : World = handed_on v j p.object in
    let later : List ℕ = all_worked k q (map (notice_from j) front) in
    let first = given_first k q j v next (notice_from j p) p (front ++ rest) is refl refl (eq-eqb j j refl)
    (left_pending v j p (front ++ rest) is) in
    let more = given_each k q j next front rest (then_pending v j p (front ++ rest) is) in
    first ∙ ap (λ ns. if_worked k q (notice_from j p) ++ ns) more
    ∙ sym (append_assoc (if_worked k q (notice_from j p)) later
    (all_for q (pending_of (handed_each next j (map (notice_from j) front)) k)))

-- no heap's row puts anything in
same_put : (v w : World) (q : ℕ) → SameOthers v w → AreIn (put_at v q) (put_at w q)
same_put v w q others n is =
    subst (λ (lists : List (Lists Notice)). has (enqueued object_of (slice_index_or lists q (new_queue q))) n ≡ true)
    (sym others.queues) is

hands_shift : (k q j : ℕ) (a b : State) (reply : Reply) → HandsFree a.world
    → hand_of b.world (Worker k) ≡ hand_of a.world (Worker k) → GivesFront a.world j reply
    → b.world.pending ≡ (handed_each a.world j (told_notices reply)).pending
    → Shifts k q a.world b.world (all_worked k q (told_notices reply)) []
hands_shift k q j a b reply free hands gives pends =
    let v : World = a.world in
    let w : World = b.world in
    let adds : List ℕ = all_worked k q (told_notices reply) in
    let left = at (handed_each v j (told_notices reply)) w k pends
    ∙ ap (λ ns. pending_of (handed_each v j ns) k) gives.tells in
    let before : waiting_in k q v ≡ all_for q (pending_of v k) =
    ap (λ (hand : List Notice). waiting (put_at v q) k q hand (pending_of v k)) (free (Worker k)) in
    let after : waiting_in k q w ≡ all_for q (pending_of w k) =
    ap (λ (hand : List Notice). waiting (put_at w q) k q hand (pending_of w k)) (hands ∙ free (Worker k)) in
    let is : waiting_in k q v ≡ adds ++ waiting_in k q w =
    before ∙ given_each k q j v gives.front gives.rest gives.pending
    ∙ ap (λ ns. ns ++ all_for q (pending_of (handed_each v j (map (notice_from j) gives.front)) k))
    (sym (ap (all_worked k q) gives.tells))
    ∙ ap (λ ps. adds ++ all_for q ps) (sym left) ∙ ap (λ ns. adds ++ ns) (sym after) in
    subst (λ ns. Sub ns (waiting_in k q v ++ [])) is (sub_longer (waiting_in k q v) [])

module _ (whole : List Row) (k q : ℕ) (x y : State) (free : HandsFree x.world)
    (grows : AreIn (put_at x.world q) (put_at y.world q))
    (hands : hand_of y.world (Worker k) ≡ hand_of x.world (Worker k))
    (made : (n i : ℕ) → registered_in (reference_at x.world.heap n) ≡ Some i
    → is_registered whole n i ≡ true) where
  abbrev ShiftsBy : NamedStep → HeapAnswer → Type 0
  ShiftsBy step reply =
      Shifts k q x.world y.world (handed_of k q step reply)
      (cleared_in whole k q (row_of (world_step step) (told_reply reply)))

  -- of a hand, which clears nothing
  given_shift : (step : NamedStep) (reply : HeapAnswer)
      → map as_notice (notices_of_hand step reply) ≡ told_notices (told_reply reply)
      → Shifts k q x.world y.world (all_worked k q (told_notices (told_reply reply))) []
      → Shifts k q x.world y.world (handed_of k q step reply) []
  given_shift step reply are shifts =
      subst (λ (ns : List Notice). Shifts k q x.world y.world (all_worked k q ns) []) (sym are) shifts

  accepted_shifts : (step : NamedStep) (reply : HeapAnswer) → IsAccepted x step reply y
      → GivesOut x.world.heap.no step reply
      → Changes x (Some step) (told_reply reply) y → ShiftsBy step reply
  accepted_shifts (heap.Hand j) reply of gives changes =
      given_shift (heap.Hand j) reply (one_is_told x.world.heap.no j reply gives)
      (hands_shift k q j x y (told_reply reply) free hands (one_of_front x y j (told_reply reply) of.1) changes.pending)
  accepted_shifts (heap.Hands j max batch) reply of gives changes =
      given_shift (heap.Hands j max batch) reply (some_are_told x.world.heap.no j max batch reply gives)
      (hands_shift k q j x y (told_reply reply) free hands (some_of_front x y j max batch (told_reply reply) of.1)
      changes.pending)
  accepted_shifts (heap.Plain (plain.ClearNext j)) (replies.Told (told.Cleared n)) of gives changes =
      search (append-nil, clears_for)
  accepted_shifts (heap.Plain step) (replies.Handed reply batch) of gives changes = absurd gives
  accepted_shifts step reply of gives changes =
      still k q x.world y.world _ grows hands (at x.world y.world k changes.pending)

  -- what is refused gives nothing
  refused_shifts : (step : NamedStep) (reply : HeapAnswer) (fault : Fault) → told_reply reply ≡ told.Refused fault
      → GivesOut x.world.heap.no step reply → y ≡ x → ShiftsBy step reply
  refused_shifts step reply fault answer gives same =
      let none : handed_of k q step reply ≡ [] =
      ap (λ ns. all_worked k q (map as_notice ns)) (refused_gives x.world.heap.no step reply fault answer gives) in
      passes k q x.world y.world (handed_of k q step reply) _ none
      (still k q x.world y.world _ grows hands (ap (λ (s : State). pending_of s.world k) same))

-- ---- runs

call_shifts : (k q : ℕ) (past : List HeapEntry) (x : State) (call : HeapEntry) (y : State)
    → IsFrom past x → IsCall x call y
    → Shifts k q x.world y.world (handed_of k q call.step call.reply)
    (cleared_in (rows_of past ++ row_of (world_step call.step) (told_reply call.reply)) k q
    (row_of (world_step call.step) (told_reply call.reply)))
call_shifts k q past x call y from turn =
    let reply : Reply = told_reply call.reply in
    let more : List Row = row_of (world_step call.step) reply in
    let others = row_others x y call.step reply turn.row in
    let hands = same_hand x.world y.world (Worker k) others in
    let grows = same_put x.world y.world q others in
    let made = made_more (rows_of past) more x.world from.known in
    elim (heap_kind x y call.step reply turn.row) [
      | inl of ↦
          refused_shifts (rows_of past ++ more) k q x y from.free grows hands made call.step call.reply of.0 of.1
          turn.gives of.2
      | inr of ↦
          accepted_shifts (rows_of past ++ more) k q x y from.free grows hands made call.step call.reply of turn.gives
          (heap_tells x y call.step reply of.1)
    ]

call_ordered : (config : Config) (number k q : ℕ) (past : List HeapEntry) (x : State) (call : HeapEntry)
    (y : State) → IsHeapRun config number past x
    → IsOrdered k q (handed_in k q past) (rows_of past) x.world → IsCall x call y
    → IsOrdered k q (handed_in k q (past ++ call ∷ [])) (rows_of (past ++ call ∷ [])) y.world
call_ordered config number k q past x call y run ordered turn =
    rw (rows_last past call, gathered_last (handed_of k q) past call)
    (more_ordered k q (handed_in k q past) (handed_of k q call.step call.reply) (rows_of past)
    (row_of (world_step call.step) (told_reply call.reply)) x.world y.world ordered
    (call_shifts k q past x call y (run_from config number past x run) turn))

pub handed_in_order : (config : Config) (number : ℕ) (calls : List HeapEntry) (last : State) (k q : ℕ)
    → IsHeapRun config number calls last → Sub (handed_in k q calls) (clearing_order (rows_of calls) k q)
handed_in_order config number calls last k q run =
    in_order k q (handed_in k q calls) (rows_of calls) last.world
    (run_holds config number (λ past x. IsOrdered k q (handed_in k q past) (rows_of past) x.world)
    (call_ordered config number k q) (nothing_waits config k q) calls last run)

pub in_clearing_order : (config : Config) (number : ℕ) (calls : List HeapEntry) (last : State) (k q : ℕ)
    → IsHeapRun config number calls last
    → is_subsequence (handed_in k q calls) (clearing_order (rows_of calls) k q) ≡ true
in_clearing_order config number calls last k q run = search (sub_is, handed_in_order)
