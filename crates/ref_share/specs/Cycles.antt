-- What one thread calls in a whole cycle of the collector, from one call of its seats to the next, and where it stopped
-- (a cycle begins, marks, clears and sweeps: JEP 333; the calls are this project's profile).
use Rattle.std.specs.Prelude.{◌≡◌, ◌≢◌, ◌<◌, ℕ, zero, suc, ◌⊎◌, Bool, true, false, List, [], Result, Ok, Err}
use Rattle.ref_base.specs.HeapSteps.{HeldNotice}
use Rattle.ref_base.specs.declared.fault.Fault.{Fault}
use Rattle.ref_base.specs.declared.fault.Fault.TheVariants.{GreyLeft, ClearingLeft, SweepLeft, NoMemory}
use Rattle.ref_base.specs.declared.plain_step.PlainStep.{PlainStep}
use Rattle.ref_base.specs.declared.plain_step.PlainStep.TheVariants as plain
use Rattle.ref_base.specs.declared.reply.Reply.{Reply}
use Rattle.ref_base.specs.declared.reply.Reply.TheVariants as told
use Rattle.ref_base.specs.declared.urgency.Urgency.{Urgency}
use Rattle.ref_base.specs.declared.urgency.Urgency.TheVariants.{Normal}
use Rattle.ref_share.specs.Answers.{fault_of}
use Rattle.ref_share.specs.Deliveries.{DeliversAll}
use Rattle.ref_share.specs.HeapCalls.{Accepted, Declined, Performs}
use Rattle.ref_share.specs.HeapSeats.{HeapView}
use Rattle.ref_share.specs.QueueSeats.{SharedQueue, QueueSeat}
use Rattle.ref_share.specs.Repeats.{Repeats}
use Rattle.ref_share.specs.declared.answers.ShareFault.{ShareFault}
use Rattle.ref_share.specs.declared.answers.ShareFault.TheVariants.{Refused}

-- ---- a phase

-- an end that is refused with this fault is refused since work is left
abbrev pub tells_of_work : Fault → Bool
tells_of_work GreyLeft = true
tells_of_work ClearingLeft = true
tells_of_work SweepLeft = true
tells_of_work fault = false

module _ (work end : PlainStep) where
  -- a round behind which the phase goes on: there was work, or its end is refused since work is left
  abbrev pub HasMore : HeapView → HeapView → Type 0
  HasMore v w =
      ((reply : Reply) × (reply ≢ told.Nothing) × Performs v work (Ok reply) w)
      ⊎ ((u : HeapView) × (fault : Fault) × (tells_of_work fault ≡ true) × Performs v work (Ok told.Nothing) u
      × Performs u end (Err fault) w)

  -- the last round: there is no work, and the end is accepted; or the one or the other is declined, and the end not
  -- since work is left
  abbrev pub IsLast : HeapView → Result (Unit {0}) ShareFault → HeapView → Type 0
  IsLast v (Ok _) w = (u : HeapView) × Performs v work (Ok told.Nothing) u × Accepted u end w
  IsLast v (Err (Refused fault)) w =
      Declined v work fault w
      ⊎ ((u : HeapView) × (tells_of_work fault ≡ false) × Performs v work (Ok told.Nothing) u × Declined u end fault w)
  IsLast v (Err fault) w = ⊥

  -- a round, which tells whether it was the last
  abbrev pub GoesRound : HeapView → Result Bool ShareFault → HeapView → Type 0
  GoesRound v (Ok true) w = IsLast v (Ok tt) w
  GoesRound v (Ok false) w = HasMore v w
  GoesRound v (Err fault) w = IsLast v (Err fault) w

  -- rounds until the last
  abbrev pub GoesThrough : HeapView → Result (Unit {0}) ShareFault → HeapView → Type 0
  GoesThrough v result w = (count : ℕ) × (u : HeapView) × Repeats HasMore count v u × IsLast u result w

-- ---- the whole

module _ (now : ℕ) (urgency : Urgency) where
  -- the begin is accepted, or declined
  abbrev pub IsBegun : HeapView → Result (Unit {0}) ShareFault → HeapView → Type 0
  IsBegun v (Ok _) w = Accepted v (plain.Begin now urgency) w
  IsBegun v (Err (Refused fault)) w = Declined v (plain.Begin now urgency) fault w
  IsBegun v (Err fault) w = ⊥

-- what one thing leaves, another goes on from; where one stops, the other is not begun
abbrev pub Then : {X : Type 0} → (first second : X → Result (Unit {0}) ShareFault → X → Type 0)
    → X → Result (Unit {0}) ShareFault → X → Type 0
Then {X = X} first second x result z =
    ((y : X) × first x (Ok tt) y × second y result z)
    ⊎ ((fault : ShareFault) × (result ≡ Err fault) × first x (Err fault) z)

-- a cycle begins, marks and clears
abbrev pub MarksAndClears : (worker now : ℕ) → Urgency → HeapView → Result (Unit {0}) ShareFault → HeapView → Type 0
MarksAndClears worker now urgency =
    Then (IsBegun now urgency)
    (Then (GoesThrough (plain.Scan worker) plain.EndMark) (GoesThrough (plain.ClearNext worker) plain.EndClear))

-- what one thread's part of a cycle goes from and to: its seats of the heap and of the queues, and the notices that are
-- left in its batch
abbrev pub CycleState : Type 0
CycleState = HeapView × (List QueueSeat × List HeldNotice)

module _ {A : Type 0} (queues : List (SharedQueue A)) (worker now : ℕ) (urgency : Urgency) where
  -- A cycle: it begins, marks and clears, hands on what is pending of the worker, and sweeps. Where it stops it goes no
  -- further, and no queue's seat makes a call but in the deliveries, which alone may leave notices.
  abbrev pub Cycles : HeapView → List QueueSeat → Result (Unit {0}) ShareFault → List HeldNotice → HeapView
      → List QueueSeat → Type 0
  Cycles v seats result left w after =
      Then
      (λ (a : CycleState) answer b. MarksAndClears worker now urgency a.0 answer b.0 × (b.1 ≡ a.1))
      (Then (λ a answer b. DeliversAll worker queues a.0 a.1.0 answer b.1.1 b.0 b.1.0)
      (λ a answer b. GoesThrough (plain.Sweep worker) plain.EndSweep a.0 answer b.0 × (b.1 ≡ a.1)))
      (v, (seats, [])) result (w, (after, left))

-- ---- cycle after cycle

-- what is so to each number from 0 on below the count, one after the other
abbrev pub CountedRepeats : {X : Type 0} → (ℕ → X → X → Type 0) → ℕ → X → X → Type 0
CountedRepeats P zero x y = y ≡ x
CountedRepeats {X = X} P (suc n) x z = (y : X) × CountedRepeats P n x y × P n y z

module _ {A : Type 0} (queues : List (SharedQueue A)) (worker now : ℕ) (urgency : Urgency) where
  -- a cycle, of which the notices that are left are given up; or there is no memory for a batch, and no call was made
  abbrev pub CyclesAlone : HeapView → List QueueSeat → Result (Unit {0}) ShareFault → HeapView → List QueueSeat → Type 0
  CyclesAlone v seats result w after =
      ((left : List HeldNotice) × Cycles queues worker now urgency v seats result left w after)
      ⊎ ((result ≡ Err (Refused NoMemory)) × (w ≡ v) × (after ≡ seats))

module _ {A : Type 0} (queues : List (SharedQueue A)) (worker : ℕ) where
  -- a cycle at this clock, which ends with the phase Idle
  abbrev pub CyclesAt : ℕ → HeapView × List QueueSeat → HeapView × List QueueSeat → Type 0
  CyclesAt now a b = CyclesAlone queues worker now Normal a.0 a.1 (Ok tt) b.0 b.1

  -- Cycles, at the clocks 0, 1 and so on: one at least, each of which ended; or they stop with the fault of one more.
  abbrev pub RunsCycles : HeapView → List QueueSeat → Result (Unit {0}) Fault → HeapView → List QueueSeat → Type 0
  RunsCycles v seats (Ok done) w after =
      (count : ℕ) × (0 < count) × CountedRepeats CyclesAt count (v, seats) (w, after)
  RunsCycles v seats (Err fault) w after =
      (count : ℕ) × (a : HeapView × List QueueSeat) × CountedRepeats CyclesAt count (v, seats) a
      × ((why : ShareFault) × (fault ≡ fault_of why)
      × CyclesAlone queues worker count Normal a.0 a.1 (Err why) w after)
