-- What `register`, `clean` and a cleaner's thread have called, and what they answer (Java SE 17
-- `java.lang.ref.Cleaner`; the turns are this project's profile).
use Rattle.std.specs.Prelude.{◌≡◌, ℕ, ◌≤◌, ◌⊎◌, Bool, true, false, Option, Some, None, Result, Ok, Err}
use Rattle.ref_base.specs.declared.config.Config.{Config}
use Rattle.ref_base.specs.declared.fault.Fault.{Fault}
use Rattle.ref_base.specs.declared.fault.Fault.TheVariants.{TurnsSpent}
use Rattle.ref_base.specs.declared.heap_step.HeapStep.TheVariants as heap
use Rattle.ref_base.specs.declared.heap_step.HoldName.{HoldName}
use Rattle.ref_base.specs.declared.plain_step.PlainStep.{PlainStep}
use Rattle.ref_base.specs.declared.plain_step.PlainStep.TheVariants as plain
use Rattle.ref_base.specs.declared.reply.Reply.{Reply}
use Rattle.ref_base.specs.declared.strength.Strength.TheVariants.{Phantom}
use Rattle.ref_base.specs.HeapSteps.{HeldNotice}
use Rattle.ref_queue.specs.declared.job.Ran.{Ran}
use Rattle.ref_world.specs.declared.heap_machine.HeapReply.TheVariants as replies
use Rattle.ref_share.specs.CleanSeats.{CleanView}
use Rattle.ref_share.specs.HeapSeats.{HeapView}
use Rattle.ref_share.specs.HeapCalls.{Accepted, Declined, HoldsSlot, Adopts, Releases}
use Rattle.ref_share.specs.SeatCalls.{Called, RanOut}
use Rattle.ref_share.specs.declared.answers.Cleanable.{Cleanable}
use Rattle.ref_share.specs.declared.answers.Cleaned.{Cleaned}
use Rattle.ref_share.specs.declared.answers.Cleaned.TheVariants as cleaned
use Rattle.ref_share.specs.declared.answers.ShareFault.{ShareFault}
use Rattle.ref_share.specs.declared.answers.ShareFault.TheVariants.{Refused, Held}
use Rattle.ref_share.specs.declared.clean_machine.CleanStep.{CleanStep}
use Rattle.ref_share.specs.declared.clean_machine.CleanStep.TheVariants as steps
use Rattle.ref_share.specs.declared.clean_machine.CleanReply.TheVariants as answers

-- ---- register

-- a phantom reference with the cleaner's queue, to what `src` holds, is made in `dst`
abbrev pub makes_phantom : (queue m src dst : ℕ) → PlainStep
makes_phantom queue m src dst = plain.Refer m Phantom dst src (Some queue) 0

module _ (queue m src dst : ℕ) (v : HeapView) where
  -- the reference was made, and a hold of it taken
  abbrev pub HasMade : HoldName → HeapView → Type 0
  HasMade hold w =
      (u : HeapView) × Accepted v (makes_phantom queue m src dst) u × HoldsSlot u m dst (Ok hold) w

  -- the reference was not made; or the hold was not taken, and the reference stays in `dst`
  abbrev pub HasNotMade : Fault → HeapView → Type 0
  HasNotMade fault w =
      Declined v (makes_phantom queue m src dst) fault w
      ⊎ ((u : HeapView) × Accepted v (makes_phantom queue m src dst) u × HoldsSlot u m dst (Err fault) w)

-- The hold that was taken before this refusal goes back to the heap, and the fault is that refusal. Or it comes back to
-- the caller where the heap doesn't take it.
abbrev pub TakesBack : HeapView → HoldName → Fault → ShareFault → HeapView → Type 0
TakesBack v hold refused (Refused fault) w = (fault ≡ refused) × Releases v hold (Ok tt) w
TakesBack v hold refused (Held kept fault) w = Releases v hold (Err (fault, kept)) w
TakesBack v hold refused fault w = ⊥

module _ (queue m src dst : ℕ) (v : HeapView) where
  -- the reference was made, and a hold of it taken; and then `dst` was emptied, so that it is in no slot
  abbrev pub HasMadeApart : HoldName → HeapView → Type 0
  HasMadeApart hold w = (u : HeapView) × HasMade queue m src dst v hold u × Accepted u (plain.Drop m dst) w

  -- The reference was not made, or its hold was not taken. Or `dst` was not emptied, and the hold is given back. In
  -- each case the reference stays in `dst` if it was made.
  abbrev pub HasNotMadeApart : ShareFault → HeapView → Type 0
  HasNotMadeApart fault w =
      ((refused : Fault) × (fault ≡ Refused refused) × HasNotMade queue m src dst v refused w)
      ⊎ ((hold : HoldName) × (u : HeapView) × (x : HeapView) × (refused : Fault) × HasMade queue m src dst v hold u
      × Declined u (plain.Drop m dst) refused x × TakesBack x hold refused fault w)

module _ {J : Type 0} (job : J) (c : CleanView J) where
  -- the hold and the job go into the table
  abbrev pub Enters : HoldName → CleanView J → Type 0
  Enters hold d = Called c (steps.Register hold.object hold job) (answers.Registered (Ok tt)) d

  -- the table refuses them; or no turn is left
  abbrev pub StaysOut : HoldName → Fault → CleanView J → Type 0
  StaysOut hold fault d =
      Called c (steps.Register hold.object hold job) (answers.Registered (Err (fault, hold, job))) d
      ⊎ ((fault ≡ TurnsSpent) × RanOut c d)

  -- the one or the other; what stays out comes back
  abbrev pub EntersOnce : HoldName → Result (Unit {0}) (Fault × HoldName × J) → CleanView J → Type 0
  EntersOnce hold (Ok _) d = Enters hold d
  EntersOnce hold (Err (fault, hold_back, job_back)) d =
      (hold_back ≡ hold) × (job_back ≡ job) × StaysOut hold fault d

  -- the hold of a reference and its job go into the table; or they stay out, and the hold is given back
  abbrev pub KeepsJob : HoldName → HeapView → Result Cleanable (ShareFault × J) → HeapView → CleanView J → Type 0
  KeepsJob hold v (Ok cleanable) w d = (cleanable.obj ≡ hold.object) × (w ≡ v) × Enters hold d
  KeepsJob hold v (Err (fault, back)) w d =
      (back ≡ job) × ((refused : Fault) × StaysOut hold refused d × TakesBack v hold refused fault w)

  module _ (queue m src dst : ℕ) (v : HeapView) where
    -- A register: the reference is made, a hold of it is taken, and hold and job go into the table. Each is called
    -- unless the one before is refused. Where the table doesn't take the hold it goes back to the heap, or to the
    -- caller where the heap doesn't take it.
    abbrev pub RegistersJob : Result Cleanable (ShareFault × J) → HeapView → CleanView J → Type 0
    RegistersJob (Ok cleanable) w d =
        (hold : HoldName) × (cleanable.obj ≡ hold.object) × HasMade queue m src dst v hold w × Enters hold d
    RegistersJob (Err (Refused fault, back)) w d =
        (back ≡ job)
        × ((HasNotMade queue m src dst v fault w × (d ≡ c))
        ⊎ ((hold : HoldName) × (u : HeapView) × HasMade queue m src dst v hold u × StaysOut hold fault d
        × Releases u hold (Ok tt) w))
    RegistersJob (Err (Held kept fault, back)) w d =
        (back ≡ job)
        × ((hold : HoldName) × (u : HeapView) × (refused : Fault) × HasMade queue m src dst v hold u
        × StaysOut hold refused d × Releases u hold (Err (fault, kept)) w)
    RegistersJob (Err (fault, back)) w d = ⊥

    -- A register apart: the reference is made, a hold of it is taken, the slot that it was made in is emptied, and hold
    -- and job go into the table. Each is called unless the one before is refused. Where the slot isn't emptied, or the
    -- table doesn't take the hold, the hold is given back.
    abbrev pub RegistersApart : Result Cleanable (ShareFault × J) → HeapView → CleanView J → Type 0
    RegistersApart (Ok cleanable) w d =
        (hold : HoldName) × (cleanable.obj ≡ hold.object) × HasMadeApart queue m src dst v hold w × Enters hold d
    RegistersApart (Err (fault, back)) w d =
        (back ≡ job)
        × ((HasNotMadeApart queue m src dst v fault w × (d ≡ c))
        ⊎ ((hold : HoldName) × (u : HeapView) × (refused : Fault) × HasMadeApart queue m src dst v hold u
        × StaysOut hold refused d × TakesBack u hold refused fault w))

-- ---- clean, unregister, and a look

-- the object's job is taken, or there is none
abbrev pub TakesJob : {J : Type 0} → CleanView J → ℕ → Option (HoldName × J) → CleanView J → Type 0
TakesJob c object taken d = Called c (steps.Take object) (answers.Taken taken) d

-- what is told of a step of the table for which no turn is left
abbrev pub IsWithoutTurn : {J : Type 0} → CleanStep HoldName J → ShareFault → Type 0
IsWithoutTurn (steps.Take object) fault = fault ≡ Refused TurnsSpent
IsWithoutTurn (steps.Has object) fault = fault ≡ Refused TurnsSpent
IsWithoutTurn (steps.Register object hold job) fault = fault ≡ Held hold TurnsSpent

-- the object's job is taken, or there is none; or no turn is left for it
abbrev pub TakesOnce : {J : Type 0} → CleanView J → ℕ → Result (Option (HoldName × J)) ShareFault → CleanView J → Type 0
TakesOnce c object (Ok taken) d = TakesJob c object taken d
TakesOnce c object (Err (Refused TurnsSpent)) d = RanOut c d
TakesOnce c object result d = ⊥

-- the table is asked whether the object has a job, and answers so; or no turn is left for it
abbrev pub LooksOnce : {J : Type 0} → CleanView J → ℕ → Result Bool ShareFault → CleanView J → Type 0
LooksOnce c object (Ok answer) d = Called c (steps.Has object) (answers.Looked answer) d
LooksOnce c object (Err (Refused TurnsSpent)) d = RanOut c d
LooksOnce c object result d = ⊥

-- the step is the heap's one call, whatever it answers; or no turn is left for it
abbrev pub Tries : HeapView → PlainStep → HeapView → Type 0
Tries v step w = ((reply : Reply) × Called v (heap.Plain step) (replies.Told reply) w) ⊎ RanOut v w

-- the reference is adopted into `dst`, cleared, and dropped, as far as turns are left; or the heap doesn't adopt it
abbrev pub Retires : (m dst : ℕ) → HeapView → HoldName → Option HoldName → HeapView → Type 0
Retires m dst v hold None w =
    (u : HeapView) × (x : HeapView) × Adopts v m dst hold (Ok tt) u
    × Tries u (plain.Clear m dst) x × Tries x (plain.Drop m dst) w
Retires m dst v hold (Some back) w = (fault : Fault) × Adopts v m dst hold (Err (fault, back)) w

-- the mutator or the slot is outside the heap's
abbrev pub IsOutside : Config → (m slot : ℕ) → Type 0
IsOutside config m slot = (config.mutators ≤ m) ⊎ (16 ≤ slot)

module _ {J : Type 0} (ran_of : J → Ran) (object m dst : ℕ) (v : HeapView) (c : CleanView J) where
  -- a clean: the job is taken, if there is one; then its reference is retired, and the job was run
  abbrev pub CleansNow : Result Cleaned ShareFault → HeapView → CleanView J → Type 0
  CleansNow (Ok cleaned.Gone) w d = TakesJob c object None d × (w ≡ v)
  CleansNow (Ok (cleaned.Ran ran kept)) w d =
      (hold : HoldName) × (job : J) × TakesJob c object (Some (hold, job)) d × (ran ≡ ran_of job)
      × Retires m dst v hold kept w
  CleansNow (Err (Refused TurnsSpent)) w d = RanOut c d × (w ≡ v)
  CleansNow result w d = ⊥

module _ {J : Type 0} (object : ℕ) (v : HeapView) (c : CleanView J) where
  -- an unregister: the job is taken out, if there is one, and comes to the caller; the hold of its reference goes back
  -- to the heap, or to the caller where the heap doesn't take it
  abbrev pub Unregisters : Result (Option (J × Option HoldName)) ShareFault → HeapView → CleanView J → Type 0
  Unregisters (Ok None) w d = TakesJob c object None d × (w ≡ v)
  Unregisters (Ok (Some (job, None))) w d =
      (hold : HoldName) × TakesJob c object (Some (hold, job)) d × Releases v hold (Ok tt) w
  Unregisters (Ok (Some (job, Some back))) w d =
      (hold : HoldName) × (fault : Fault) × TakesJob c object (Some (hold, job)) d
      × Releases v hold (Err (fault, back)) w
  Unregisters (Err (Refused TurnsSpent)) w d = RanOut c d × (w ≡ v)
  Unregisters result w d = ⊥

-- ---- a cleaner's thread

module _ {J : Type 0} (notice : HeldNotice) (v : HeapView) (c : CleanView J) where
  -- the notice was released, and the job of its reference taken
  abbrev pub HasTaken : HoldName → J → HeapView → CleanView J → Type 0
  HasTaken hold job w d = Releases v notice.hold (Ok tt) w × TakesJob c notice.hold.object (Some (hold, job)) d

  -- What follows a notice: it is released, and the job of its reference is taken. Where there is one it was run, and
  -- its hold is released: true exactly there. A hold that the heap does not take comes back; with that of the notice
  -- no job is taken, and with that of a job the job was run.
  abbrev pub CleansDead : Result Bool ShareFault → HeapView → CleanView J → Type 0
  CleansDead (Ok false) w d = Releases v notice.hold (Ok tt) w × TakesJob c notice.hold.object None d
  CleansDead (Ok true) w d =
      (hold : HoldName) × (job : J) × (u : HeapView) × HasTaken hold job u d × Releases u hold (Ok tt) w
  CleansDead (Err (Refused TurnsSpent)) w d = Releases v notice.hold (Ok tt) w × RanOut c d
  CleansDead (Err (Held kept fault)) w d =
      (Releases v notice.hold (Err (fault, kept)) w × (d ≡ c))
      ⊎ ((hold : HoldName) × (job : J) × (u : HeapView) × HasTaken hold job u d × Releases u hold (Err (fault, kept)) w)
  CleansDead result w d = ⊥
