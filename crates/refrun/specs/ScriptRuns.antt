-- The rows of a script: those of the world are rows of the abstract collector, and those of jobs are rows of one
-- cleaner's table (Java SE 17 `java.lang.ref.Cleaner` for an action that runs at most once, as its reference is
-- cleared; the numbers of jobs: this project's profile).
use Rattle.std.specs.Prelude.{◌≡◌, ◌≢◌, ℕ, List, [], ◌∷◌, Option, Some, None, Ok, Err, All, Contains}
use Rattle.std.specs.Prelude.{IsPermutation}
use Rattle.ref_base.specs.Heaps.{slot_at}
use Rattle.ref_base.specs.Refusals.{clear_refusal}
use Rattle.ref_base.specs.Collectors.{State, first_state}
use Rattle.ref_base.specs.CollectorRows.{IsRow}
use Rattle.ref_base.specs.declared.config.Config.{Config}
use Rattle.ref_base.specs.declared.fault.Fault.{Fault}
use Rattle.ref_base.specs.declared.plain_step.PlainStep.TheVariants.{Clear}
use Rattle.ref_base.specs.declared.reply.Reply.TheVariants.{Done, Refused}
use Rattle.ref_base.specs.declared.step.Step.TheVariants.{Plain}
use Rattle.ref_queue.specs.CleanTables.{Registry, new_registry, Registers, Takes}
use Rattle.ref_script.specs.declared.script_step.ScriptReply.{ScriptReply}
use Rattle.ref_script.specs.declared.script_step.ScriptReply.TheVariants as replies
use Rattle.ref_script.specs.declared.script_step.ScriptRow.{ScriptRow}
use Rattle.ref_script.specs.declared.script_step.ScriptStep.{ScriptStep}
use Rattle.ref_script.specs.declared.script_step.ScriptStep.TheVariants as steps

-- ---- the rows of jobs

-- a cleaner's table, and the jobs that were never registered in it, in any order
pub record StageJobs (J : Type 0) : Type 0 where
  pub table : Registry (Unit {0}) J
  pub left : List J

abbrev pub first_jobs : {J : Type 0} → List J → StageJobs J
first_jobs jobs = record { table = new_registry; left = jobs }

module _ {J : Type 0} (number : J → ℕ) where
  -- When a `job` of number n for this object is answered so. It is ok where a job of this number is left, which the
  -- table takes; used where none is; and where the table refuses the job it stays to be used.
  abbrev pub RegistersStageJob : ℕ → ℕ → StageJobs J → ScriptReply → StageJobs J → Type 0
  RegistersStageJob object n old replies.Registered new =
      (job : J) × (number job ≡ n) × IsPermutation old.left (job ∷ new.left)
      × Registers old.table object tt job (Ok tt) new.table
  RegistersStageJob object n old replies.Used new = All (λ job. number job ≢ n) old.left × (new ≡ old)
  RegistersStageJob object n old (replies.World (Refused fault)) new =
      (job : J) × (number job ≡ n) × Contains old.left job × IsPermutation old.left new.left
      × Registers old.table object tt job (Err (fault, tt, job)) new.table
  RegistersStageJob object n old reply new = ⊥

  -- When a `job` of the reference in a slot is answered so, by why the slot has no reference, if it hasn't, and by what
  -- the slot holds.
  abbrev pub RegistersIn : Option Fault → Option ℕ → ℕ → StageJobs J → ScriptReply → StageJobs J → Type 0
  RegistersIn (Some fault) held n old reply new = (reply ≡ replies.World (Refused fault)) × (new ≡ old)
  RegistersIn None None n old reply new = ⊥
  RegistersIn None (Some object) n old reply new = RegistersStageJob object n old reply new

module _ {J : Type 0} (number note : J → ℕ) where
  -- When a `run` of the reference in a slot, which is this object, is answered so. It is gone where the table has no
  -- job of it; else its job is given out, the reference is cleared, and the answer is the job's number and note.
  abbrev pub RunsJob : ℕ → ℕ → ℕ → State → StageJobs J → ScriptReply → State → StageJobs J → Type 0
  RunsJob object m s a old replies.Gone b new =
      Takes old.table object None new.table × (new.left ≡ old.left) × (b ≡ a)
  RunsJob object m s a old (replies.Ran ran) b new =
      (job : J) × Takes old.table object (Some (tt, job)) new.table × (new.left ≡ old.left)
      × (ran ≡ record { number = number job; answer = note job })
      × IsRow a (record { step = Plain (Clear m s); reply = Done }) b
  RunsJob object m s a old reply b new = ⊥

  -- When a `run` of the reference in a slot is answered so, by why the slot has no reference, if it hasn't, and by what
  -- the slot holds.
  abbrev pub RunsIn : Option Fault → Option ℕ → ℕ → ℕ → State → StageJobs J → ScriptReply → State → StageJobs J → Type 0
  RunsIn (Some fault) held m s a old reply b new =
      (reply ≡ replies.World (Refused fault)) × (b ≡ a) × (new ≡ old)
  RunsIn None None m s a old reply b new = ⊥
  RunsIn None (Some object) m s a old reply b new = RunsJob object m s a old reply b new

  -- ---- the rows of a script

  -- the step may be answered so, and then leaves this state of the collector and these jobs
  abbrev pub IsScriptRow : State → StageJobs J → ScriptStep → ScriptReply → State → StageJobs J → Type 0
  IsScriptRow a old (steps.World step) (replies.World reply) b new =
      IsRow a (record { step = step; reply = reply }) b × (new ≡ old)
  IsScriptRow a old (steps.World step) reply b new = ⊥
  IsScriptRow a old (steps.Job m s n) reply b new =
      RegistersIn number (clear_refusal a.world.heap m s) (slot_at a.world.heap m s) n old reply new × (b ≡ a)
  IsScriptRow a old (steps.Run m s) reply b new =
      RunsIn (clear_refusal a.world.heap m s) (slot_at a.world.heap m s) m s a old reply b new

  -- the rows lead from the one state and jobs to the others
  abbrev pub IsScriptRun : State → StageJobs J → List ScriptRow → State → StageJobs J → Type 0
  IsScriptRun a old [] b new = (b ≡ a) × (new ≡ old)
  IsScriptRun a old (row ∷ rows) b new =
      (mid : State) × (between : StageJobs J) × IsScriptRow a old row.step row.reply mid between
      × IsScriptRun mid between rows b new

  -- a trace of a script with these jobs, from the first state and an empty table on
  abbrev pub IsScriptTrace : Config → List J → List ScriptRow → Type 0
  IsScriptTrace config jobs rows =
      (last : State) × (end : StageJobs J) × IsScriptRun (first_state config) (first_jobs jobs) rows last end
