-- What the calls of a cleaner have made.
use Rattle.ref_share.proofs.Common.{arith, ◌≡◌, ℕ, Option, Some, Result, Ok, Err, IfOk, IfErr, inl, inr, Fault, sym}
use Rattle.ref_share.proofs.Common.{subst}
use Rattle.ref_share.proofs.Common.{HoldName, Reply, HeldNotice, CleanView, TakesJob, makes_phantom, HeapView, Releases}
use Rattle.ref_base.specs.declared.plain_step.PlainStep.{PlainStep}
use Rattle.ref_share.specs.Cleanings.{HasMade, HasNotMade, HasMadeApart, Tries, HasTaken, KeepsJob, StaysOut}
use Rattle.ref_share.specs.Cleanings.{RegistersJob, RegistersApart}
use Rattle.ref_share.specs.declared.answers.Cleanable.{Cleanable}
use Rattle.ref_share.specs.declared.answers.ShareFault.{ShareFault}
use Rattle.ref_share.specs.declared.answers.ShareFault.TheVariants.{Refused, Held}
use Rattle.ref_share.specs.HeapCalls.{AsksHeap, Accepted, HoldsSlot}

-- a step that is asked of a heap is tried
pub tries_of_ask : (v w : HeapView) (step : PlainStep) (result : Result Reply Fault) → AsksHeap v step result w
    → Tries v step w
tries_of_ask v w step (Ok reply) asks = inl (reply, asks)
tries_of_ask v w step (Err fault) asks = inr asks.1

-- behind a reference that was made, its hold is taken or not
pub made_or_not : (queue m src dst : ℕ) (v u w : HeapView) → Accepted v (makes_phantom queue m src dst) u
    → (result : Result HoldName Fault) → HoldsSlot u m dst result w
    → IfOk result (λ hold. HasMade queue m src dst v hold w)
    × IfErr result (λ fault. HasNotMade queue m src dst v fault w)
made_or_not queue m src dst v u w accepted (Ok hold) holds = ((u, accepted, holds), tt)
made_or_not queue m src dst v u w accepted (Err fault) holds = (tt, inr (u, accepted, holds))

-- a notice was released, and the job of its reference taken
pub has_taken : {J : Type 0} (notice : HeldNotice) (v w : HeapView) (c d : CleanView J) (held hold : HoldName)
    (object : ℕ) (job : J) (taken : Option (HoldName × J)) → held ≡ notice.hold → Releases v held (Ok tt) w
    → object ≡ notice.hold.object → taken ≡ Some (hold, job) → TakesJob c object taken d
    → HasTaken notice v c hold job w d
has_taken notice v w c d held hold object job taken own releases same is takes = grind arith

module _ {J : Type 0} (job : J) (c d : CleanView J) (queue m src dst : ℕ) (v u w : HeapView) (hold : HoldName) where
  -- what was made, and then kept or given back, was registered
  pub registers_job : (result : Result Cleanable (ShareFault × J)) → HasMade queue m src dst v hold u
      → KeepsJob job c hold u result w d → RegistersJob job c queue m src dst v result w d
  registers_job (Ok cleanable) made keeps =
      (hold, keeps.0, subst (HasMade queue m src dst v hold) (sym keeps.1) made, keeps.2)
  registers_job (Err (Refused fault, back)) made keeps = (
    keeps.0,
    inr (hold, u, made, subst (λ (f : Fault). StaysOut job c hold f d) (sym keeps.1.2.0) keeps.1.1, keeps.1.2.1),
  )
  registers_job (Err (Held kept fault, back)) made keeps =
      (keeps.0, (hold, u, keeps.1.0, made, keeps.1.1, keeps.1.2))
  registers_job (Err (fault, back)) made keeps = absurd keeps.1.2

  -- and apart
  pub registers_apart : (result : Result Cleanable (ShareFault × J)) → HasMadeApart queue m src dst v hold u
      → KeepsJob job c hold u result w d → RegistersApart job c queue m src dst v result w d
  registers_apart (Ok cleanable) made keeps =
      (hold, keeps.0, subst (HasMadeApart queue m src dst v hold) (sym keeps.1) made, keeps.2)
  registers_apart (Err (fault, back)) made keeps =
      (keeps.0, inr (hold, u, keeps.1.0, made, keeps.1.1, keeps.1.2))
