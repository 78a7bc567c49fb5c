-- What a whole cycle may have called, and what not, with two queues: nothing is dead, so that each kind of work is
-- asked for once and answers nothing.
use Rattle.ref_share.proofs.Common.{◌≡◌, ℕ, List, [], ◌∷◌, ◌++◌, length, map, Option, Ok, Err, inl, inr, refl, ap}
use Rattle.ref_share.proofs.Common.{arith, zero, suc}
use Rattle.ref_share.proofs.Common.{length-append, ClearHeap, Idle, entry, Busy, HeapView, HeapEntry}
use Rattle.ref_share.proofs.Common.{QueueSeat, SharedQueue, Reply}
use Rattle.ref_base.specs.declared.fault.Fault.TheVariants.{GreyLeft, NoCell, NoMemory, WrongPhase}
use Rattle.ref_base.specs.declared.heap_step.HeapStep.TheVariants as heap
use Rattle.ref_base.specs.declared.plain_step.PlainStep.{PlainStep}
use Rattle.ref_base.specs.declared.plain_step.PlainStep.TheVariants as plain
use Rattle.ref_base.specs.declared.reply.Reply.TheVariants as told
use Rattle.ref_base.specs.declared.urgency.Urgency.TheVariants.{Normal, Urgent}
use Rattle.ref_world.specs.declared.heap_machine.HeapReply.TheVariants as replies
use Rattle.ref_share.specs.Cycles.{HasMore, IsLast, GoesThrough, IsBegun, MarksAndClears, Cycles, CyclesAlone}
use Rattle.ref_share.specs.Cycles.{RunsCycles}
use Rattle.ref_share.specs.Deliveries.{DeliversAll}
use Rattle.ref_share.specs.WantsOfRoom.{Does, DoesUnlessFull, DoesAfter}
use Rattle.ref_share.specs.declared.answers.ShareFault.TheVariants.{Refused}

-- a step of the heap's one seat, with this reply
abbrev asked : PlainStep → Reply → HeapEntry
asked step reply = entry 0 (heap.Plain step) (replies.Told reply)

abbrev begins : HeapEntry
begins = asked (plain.Begin 5 Normal) (told.Cycle 1)

abbrev scans : HeapEntry
scans = asked (plain.Scan 0) told.Nothing

abbrev marks : HeapEntry
marks = asked plain.EndMark (told.Doomed 0)

abbrev looks : HeapEntry
looks = asked (plain.ClearNext 0) told.Nothing

abbrev clears : HeapEntry
clears = asked plain.EndClear told.Done

abbrev hands : HeapEntry
hands = entry 0 (heap.Hands 0 32 []) (replies.Handed told.Nothing [])

abbrev sweeps : HeapEntry
sweeps = asked (plain.Sweep 0) told.Nothing

abbrev ends : HeapEntry
ends = asked plain.EndSweep told.Done

abbrev cleared : List HeapEntry
cleared = begins ∷ scans ∷ marks ∷ looks ∷ clears ∷ []

module _ {A : Type 0} (start : Option ClearHeap) (queues : List (SharedQueue A)) (seats : List QueueSeat) where
  -- the heap's one seat, which has made these calls
  abbrev seat : List HeapEntry → HeapView
  seat calls = record {
    first = 0;
    start = start;
    stage = Idle;
    number = 0;
    seen = calls;
    mine = calls;
    drawn = 0;
    looks = 0;
  }

  -- ---- a phase

  it_marks : GoesThrough (plain.Scan 0) plain.EndMark (seat (begins ∷ [])) (Ok tt) (seat (begins ∷ scans ∷ marks ∷ []))
  it_marks = (
    0,
    seat (begins ∷ []),
    refl,
    (
      seat (begins ∷ scans ∷ []),
      (refl, ((refl, refl, refl), ([], refl), refl)),
      (told.Doomed 0, refl, ((refl, refl, refl), ([], refl), refl)),
    ),
  )

  -- an object came up meanwhile
  it_goes_on : HasMore (plain.Scan 0) plain.EndMark (seat [])
      (seat (scans ∷ asked plain.EndMark (told.Refused GreyLeft) ∷ []))
  it_goes_on = inr (
    seat (scans ∷ []),
    GreyLeft,
    refl,
    (refl, ((refl, refl, refl), ([], refl), refl)),
    inl ((refl, refl, refl), ([], refl), refl),
  )

  ended_without_a_look : ¬ (IsLast (plain.Scan 0) plain.EndMark (seat []) (Ok tt) (seat (marks ∷ [])))
  ended_without_a_look last =
      let u = last.0 in
      let looked : u.mine ≡ [] ++ asked (plain.Scan 0) told.Nothing ∷ [] = last.1.1.2 in
      let end = entry u.number (heap.Plain plain.EndMark) (replies.Told last.2.0) in
      let both : marks ∷ [] ≡ u.mine ++ end ∷ [] = last.2.2.2 in
      absurd (omega (arith, ap length looked, ap length both, length-append u.mine (end ∷ [])))

  -- ---- a whole cycle

  it_begins_marks_and_clears : MarksAndClears 0 5 Normal (seat []) (Ok tt) (seat cleared)
  it_begins_marks_and_clears = inl (
    seat (begins ∷ []),
    (told.Cycle 1, refl, ((refl, refl, refl), ([], refl), refl)),
    inl (
      seat (begins ∷ scans ∷ marks ∷ []),
      it_marks,
      (
        0,
        seat (begins ∷ scans ∷ marks ∷ []),
        refl,
        (
          seat (begins ∷ scans ∷ marks ∷ looks ∷ []),
          (refl, ((refl, refl, refl), ([], refl), refl)),
          (told.Done, refl, ((refl, refl, refl), ([], refl), refl)),
        ),
      ),
    ),
  )

  nothing_is_pending : DeliversAll 0 queues (seat cleared) seats (Ok tt) [] (seat (cleared ++ hands ∷ [])) seats
  nothing_is_pending = (0, (seat cleared, seats), refl, (((7, refl), ((refl, refl, refl), ([], refl), refl)), refl))

  it_is_a_cycle : Cycles queues 0 5 Normal (seat []) seats (Ok tt) []
      (seat (cleared ++ hands ∷ sweeps ∷ ends ∷ [])) seats
  it_is_a_cycle = inl (
    (seat cleared, (seats, [])),
    (it_begins_marks_and_clears, refl),
    inl (
      (seat (cleared ++ hands ∷ []), (seats, [])),
      nothing_is_pending,
      (
        (
          0,
          seat (cleared ++ hands ∷ []),
          refl,
          (
            seat (cleared ++ hands ∷ sweeps ∷ []),
            (refl, ((refl, refl, refl), ([], refl), refl)),
            (told.Done, refl, ((refl, refl, refl), ([], refl), refl)),
          ),
        ),
        refl,
      ),
    ),
  )

  it_is_one_alone : CyclesAlone queues 0 5 Normal (seat []) seats (Ok tt)
      (seat (cleared ++ hands ∷ sweeps ∷ ends ∷ [])) seats
  it_is_one_alone = inl ([], it_is_a_cycle)

  no_memory_and_no_call : CyclesAlone queues 0 5 Normal (seat []) seats (Err (Refused NoMemory)) (seat []) seats
  no_memory_and_no_call = inr (refl, refl, refl)

  -- promise: Collector::cycle: a cycle that ended was begun
  ended_and_never_begun : (now : ℕ) (v w : HeapView) (from after : List QueueSeat)
      → CyclesAlone queues 0 now Normal v from (Ok tt) w after
      → ¬ ((u : HeapView) → ¬ (IsBegun now Normal v (Ok tt) u))
  ended_and_never_begun now v w from after cycles never =
      elim cycles [
        | inl is ↦ elim is.1 [
          | inl begun ↦ elim begun.1.0 [
            | inl first ↦ never first.0 first.1
            | inr stops ↦ let not = stops.1 in absurd cc
          ]
          | inr stops ↦ let not = stops.1 in absurd cc
        ]
        | inr none ↦ let not = none.0 in absurd cc
      ]

  -- promise: Collector::run_cycles, Collector::run_beside: the last of the cycles that were run was begun
  ran_and_none_was_begun : (w : HeapView) (after : List QueueSeat)
      → RunsCycles queues 0 (seat []) seats (Ok tt) w after
      → ¬ ((now : ℕ) (v u : HeapView) → ¬ (IsBegun now Normal v (Ok tt) u))
  ran_and_none_was_begun w after (zero, some, are) never = absurd (omega (arith, some))
  ran_and_none_was_begun w after (suc now, some, are) never =
      ended_and_never_begun now are.0.0 w are.0.1 after are.2 (never now are.0.0)

  -- promise: cycle: a cycle that never begins is none
  never_begun : ¬ (IsBegun 5 Normal (seat []) (Ok tt) (seat []))
  never_begun begun = let none = begun.2.2 in absurd cc

  -- promise: cycle: an urgent cycle is begun as one
  begun_less_urgent : ¬ (IsBegun 5 Urgent (seat []) (Ok tt) (seat (begins ∷ [])))
  begun_less_urgent begun =
      let steps = ap (λ (calls : List HeapEntry). map (λ call. call.step) calls) begun.2.2 in absurd cc

  begun_at_another_clock : ¬ (IsBegun 4 Normal (seat []) (Ok tt) (seat (begins ∷ [])))
  begun_at_another_clock begun =
      let steps = ap (λ (calls : List HeapEntry). map (λ call. call.step) calls) begun.2.2 in
      let four : ℕ = 4 in
      let clocks : 5 ≡ four = cc in
      absurd (omega (arith, clocks))

  it_stops_before_anything_is_done : Cycles queues 0 5 Normal (seat []) seats (Err (Refused WrongPhase)) []
      (seat (asked (plain.Begin 5 Normal) (told.Refused WrongPhase) ∷ [])) seats
  it_stops_before_anything_is_done = inr (
    Refused WrongPhase,
    refl,
    (inr (Refused WrongPhase, refl, inl ((refl, refl, refl), ([], refl), refl)), refl),
  )

  it_was_done_and_told_as_busy : ¬ (IsLast (plain.Scan 0) plain.EndMark (seat []) (Err Busy) (seat (marks ∷ [])))
  it_was_done_and_told_as_busy last = last

  -- ---- a want of room

  it_is_made_at_once : DoesAfter queues 0 5 (plain.New 0 0 1) (Normal ∷ Urgent ∷ []) (seat []) seats
      (Ok (told.Object 1)) [] (seat (asked (plain.New 0 0 1) (told.Object 1) ∷ [])) seats
  it_is_made_at_once = inl ((refl, ((refl, refl, refl), ([], refl), refl)), (λ is. cc), refl, refl)

  -- no cycle came before
  given_up_at_once : (w : HeapView) → ¬ (DoesUnlessFull (plain.New 0 0 1) (seat []) (Err (Refused NoCell)) w)
  given_up_at_once w does = does.1 refl

  told_of_an_object_and_refused : ¬ (Does (plain.New 0 0 1) (seat []) (Ok (told.Object 1))
      (seat (asked (plain.New 0 0 1) (told.Refused NoCell) ∷ [])))
  told_of_an_object_and_refused does =
      let replies = ap (λ (calls : List HeapEntry). map (λ call. call.reply) calls) does.1.2 in absurd cc
