-- Rows of jobs, from each state that the world stands for.
use Rattle.refrun.proofs.Common.{arith, ◌≡◌, ℕ, ◌<◌, List, [], ◌∷◌, ◌++◌, length, get_or, Some, None, Ok, Err, refl, ap}
use Rattle.refrun.proofs.Common.{◌∙◌, State, Fault, Refused, Core, Stands, StageJobs, RegistersStageJob, IsScriptRowOf}
use Rattle.refrun.proofs.Common.{jobs, ScriptReply}
use Rattle.std.specs.Prelude.{HoldsAt, IsPermutation, swap_remove}
use Rattle.std.proofs.lemmas.List.Sorted.{IsPermutation-swap_remove, IsPermutation-to_front, IsPermutation-sym}
use Rattle.std.proofs.lemmas.List.Sorted.{IsPermutation-trans}
use Rattle.ref_base.specs.Heaps.{slot_at}
use Rattle.ref_base.specs.Refusals.{clear_refusal}
use Rattle.ref_base.specs.declared.reply.Reply.{Reply}
use Rattle.ref_queue.specs.CleanTables.{Registry, Registers, Takes}
use Rattle.ref_queue.specs.declared.job.Ran.{Ran}
use Rattle.ref_world.specs.Standing.{IsRowOf}
use Rattle.ref_world.specs.WorldHeaps.{cycles_of, model_heap}
use Rattle.ref_mark.proofs.MarkLaws.{on_own_heap}
use Rattle.ref_base.specs.declared.heap_step.HeapStep.TheVariants as heap
use Rattle.ref_base.specs.declared.plain_step.PlainStep.TheVariants as plain
use Rattle.ref_base.specs.declared.step.Step.TheVariants as steps
use Rattle.ref_script.specs.declared.script_step.ScriptReply.TheVariants as replies
use Rattle.ref_script.specs.declared.script_step.ScriptStep.TheVariants as scripts

module _ (c : Core) (a : State) (stands : Stands c a) (m s : ℕ) where
  -- what refuses a clear, and what its slot holds, is as the heap has it
  same_refusal : clear_refusal a.world.heap m s ≡ clear_refusal (model_heap c.heap) m s
  same_refusal = on_own_heap (cycles_of c.heap) a stands.heap.mark (heap.Plain (plain.Clear m s))

module _ {J : Type 0} (number : J → ℕ) (object n : ℕ) (table after : Registry (Unit {0}) J) (left rest : List J)
    (i : ℕ) (job : J) (inside : i < length left) (holds : HoldsAt (λ j. number j ≡ n) left i)
    (is : job ≡ get_or left i job) (rest_is : rest ≡ swap_remove left i job) where
  -- the job at this place has this number
  numbered_at : number job ≡ n
  numbered_at = ap number is ∙ holds job

  taken_out : IsPermutation left (job ∷ rest)
  taken_out = rw rest_is (IsPermutation-swap_remove left i job inside is)

  -- it is registered
  pub registers_job : Registers table object tt job (Ok tt) after
      → RegistersStageJob number object n (jobs table left) replies.Registered (jobs after rest)
  registers_job registers = (job, numbered_at, taken_out, registers)

  -- or it is refused, and goes back behind the others
  pub refuses_job : (fault : Fault) (key : Unit {0}) (back : J) (again : List J) → again ≡ rest ++ back ∷ []
      → Registers table object tt job (Err (fault, key, back)) after
      → RegistersStageJob number object n (jobs table left) (replies.World (Refused fault)) (jobs after again)
  refuses_job fault key back again again_is registers =
      grind (arith, IsPermutation-trans, taken_out, IsPermutation-sym, IsPermutation-to_front)

module _ {J : Type 0} (number note : J → ℕ) (old new : Core) (before after : StageJobs J) where
  module _ (m s object : ℕ) (refused : clear_refusal (model_heap old.heap) m s ≡ None)
      (held : slot_at (model_heap old.heap) m s ≡ Some object) where
    -- a job is registered for the reference in the slot
    pub job_row : (n : ℕ) (reply : ScriptReply) → new ≡ old → RegistersStageJob number object n before reply after
        → IsScriptRowOf number note old before (scripts.Job m s n) reply new after
    job_row n reply same registers a stands = grind (arith, same_refusal)

    -- the reference has no job
    pub gone_row : new ≡ old → Takes before.table object None after.table → after.left ≡ before.left
        → IsScriptRowOf number note old before (scripts.Run m s) replies.Gone new after
    gone_row same takes left a stands = grind (arith, same_refusal)

    -- its job is given out, and it is cleared
    pub ran_row : (job : J) (ran : Ran) (reply : Reply) → Takes before.table object (Some (tt, job)) after.table
        → after.left ≡ before.left → ran ≡ record { number = number job; answer = note job }
        → IsRowOf old (steps.Plain (plain.Clear m s)) reply new
        → IsScriptRowOf number note old before (scripts.Run m s) (replies.Ran ran) new after
    ran_row job ran reply takes left ran_is row a stands = grind (arith, same_refusal)

  module _ (m s : ℕ) (fault : Fault) (refused : clear_refusal (model_heap old.heap) m s ≡ Some fault) (same : new ≡ old)
      (kept : after ≡ before) where
    -- the slot has no reference
    pub job_refused_row : (n : ℕ)
        → IsScriptRowOf number note old before (scripts.Job m s n) (replies.World (Refused fault)) new after
    job_refused_row n a stands =
        (a, (rw (same_refusal old a stands m s ∙ refused) (refl, kept), refl), rw same stands)

    pub run_refused_row : IsScriptRowOf number note old before (scripts.Run m s) (replies.World (Refused fault))
        new after
    run_refused_row a stands = (a, rw (same_refusal old a stands m s ∙ refused) (refl, refl, kept), rw same stands)
