-- Which jobs the history of a cleaner registers and takes, read off its entries alone (an action runs at most once:
-- Java SE 17 `java.lang.ref.Cleaner`; the entries are this project's profile).
use Rattle.std.specs.Prelude.{ℕ, Bool, false, ◌||◌, nat_eq, if◌then◌else◌, List, [], ◌∷◌, Option, Some, None, Ok}
use Rattle.ref_turn.specs.declared.history.Entry.{Entry}
use Rattle.ref_share.specs.declared.clean_machine.CleanStep.{CleanStep}
use Rattle.ref_share.specs.declared.clean_machine.CleanStep.TheVariants as steps
use Rattle.ref_share.specs.declared.clean_machine.CleanReply.{CleanReply}
use Rattle.ref_share.specs.declared.clean_machine.CleanReply.TheVariants as replies

module _ {K J : Type 0} (n : ℕ) where
  -- whether the call registers a job for the object
  abbrev pub registers_job : CleanStep K J → CleanReply K J → Bool
  registers_job (steps.Register m kept job) (replies.Registered (Ok _)) = nat_eq m n
  registers_job step reply = false

  abbrev pub some_registers : List (Entry (CleanStep K J) (CleanReply K J)) → Bool
  some_registers [] = false
  some_registers (call ∷ calls) = registers_job call.step call.reply || some_registers calls

  -- the object's job after a call: the one that it registers, none once it was taken, and else the one before
  abbrev pub job_after : Option (K × J) → CleanStep K J → CleanReply K J → Option (K × J)
  job_after before (steps.Register m kept job) (replies.Registered (Ok _)) =
      if nat_eq m n then Some (kept, job) else before
  job_after before (steps.Take m) reply = if nat_eq m n then None else before
  job_after before step reply = before

  -- the object's job after these calls: the one that was registered last, unless it was taken since
  abbrev pub job_left : Option (K × J) → List (Entry (CleanStep K J) (CleanReply K J)) → Option (K × J)
  job_left before [] = before
  job_left before (call ∷ calls) = job_left (job_after before call.step call.reply) calls
