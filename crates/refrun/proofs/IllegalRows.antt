-- Rows and lists that differ in one place from what a script or a stress run may print, and are none of it.
use Rattle.refrun.proofs.Common.{◌≡◌, ℕ, ◌+◌, [], ◌∷◌, List, Some, None, refl, arith, State}
use Rattle.refrun.proofs.Common.{first_state, plain_object, Config, Refused, New, Refer, Weak}
use Rattle.refrun.proofs.Common.{StageJobs, IsScriptRun}
use Rattle.refrun.proofs.Common.{IsFirstFailure, ScriptReply, ScriptRow, ScriptStep}
use Rattle.std.proofs.Common.{replicate}
use Rattle.ref_base.specs.Heaps.{first_heap}
use Rattle.ref_base.specs.Worlds.{first_world}
use Rattle.ref_base.specs.declared.fault.Fault.TheVariants.{NoCell, NoSuchActor}
use Rattle.ref_base.specs.declared.reply.Reply.TheVariants.{Object}
use Rattle.refrun.specs.ScriptRuns.{IsScriptTrace}
use Rattle.ref_base.specs.declared.span_rule.SpanRule.TheVariants.{Fixed}
use Rattle.ref_base.specs.declared.step.Step.TheVariants as world
use Rattle.ref_script.specs.declared.script_step.ScriptReply.TheVariants as replies
use Rattle.ref_script.specs.declared.script_step.ScriptStep.TheVariants as steps

-- ---- rows

abbrev row : ScriptStep → ScriptReply → ScriptRow
row step reply = record { step = step; reply = reply }

-- config 1 1 1 8 10
abbrev config : Config
config = record { mutators = 1; workers = 1; queues = 1; cells = 8; span = 10; rule = Fixed }

-- an object is made
abbrev making : ℕ → ScriptRow
making slot = row (steps.World (world.Plain (New 0 slot 0))) (replies.World (Object (slot + 1)))

-- a weak reference to it is made, in slot 1
abbrev referring : ScriptRow
referring = row (steps.World (world.Plain (Refer 0 Weak 1 0 None 0))) (replies.World (Object 2))

-- a refusal where none applies
abbrev refused_without_cause : List ScriptRow
refused_without_cause = row (steps.World (world.Plain (New 0 0 0))) (replies.World (Refused NoSuchActor)) ∷ []

-- there are eight cells, and only one is taken
abbrev no_cell_too_early : List ScriptRow
no_cell_too_early = making 0 ∷ row (steps.World (world.Plain (New 0 1 0))) (replies.World (Refused NoCell)) ∷ []

-- a job that was never registered
abbrev ran_unregistered : List ScriptRow
ran_unregistered =
    making 0 ∷ referring ∷ row (steps.Run 0 1) (replies.Ran (record { number = 3; answer = 1003 })) ∷ []

-- a job of another number than was registered
abbrev ran_another : List ScriptRow
ran_another =
    making 0 ∷ referring ∷
    row (steps.Job 0 1 3) replies.Registered ∷
    row (steps.Run 0 1) (replies.Ran (record { number = 2; answer = 1002 })) ∷ []

-- the object and the reference to it
abbrev referred : State
referred = record (first_state config) {
  world = record (first_world config) {
    heap = record (first_heap config 0) {
      objects = plain_object 1 [] ∷ record {
        no = 2;
        fields = [];
        reference = Some (record { strength = Weak; referent = Some 1; stamp = 0; queue = None });
      } ∷ [];
      slots = Some 1 ∷ Some 2 ∷ replicate 14 None;
    };
  };
  next = 3;
}

module _ {J : Type 0} (number note : J → ℕ) where
  -- the state that the two rows leave
  referred_by : (jobs last : StageJobs J) (rows : List ScriptRow) (end : State)
      → IsScriptRun number note (first_state config) jobs (making 0 ∷ referring ∷ rows) end last
      → IsScriptRun number note referred jobs rows end last
  referred_by jobs last rows end run = grind arith

  -- promise: run_script: no step is refused without cause
  refused_without_cause_is_no_trace : (jobs : List J) → ¬ (IsScriptTrace number note config jobs refused_without_cause)
  refused_without_cause_is_no_trace jobs trace = let answer = trace.2.2.0.1.0 in absurd cc

  -- promise: run_script: NoCell comes where no cell is left
  no_cell_too_early_is_no_trace : (jobs : List J) → ¬ (IsScriptTrace number note config jobs no_cell_too_early)
  no_cell_too_early_is_no_trace jobs trace = grind arith

  -- promise: run_script: no job is run that was not registered
  ran_unregistered_is_no_trace : (jobs : List J) → ¬ (IsScriptTrace number note config jobs ran_unregistered)
  ran_unregistered_is_no_trace jobs trace = grind arith

  -- what a table has of a job
  abbrev entry : J → Unit {0} × J
  entry job = (tt, job)

  -- a job of number 3 isn't told of as number 2
  told_another : (job given : J) → number job ≡ 3 → Some (entry given) ≡ Some (entry job) → 2 ≡ number given → ⊥
  told_another job given is_3 same told = grind arith

  -- promise: run_script: no other reference's job is run
  ran_another_is_no_trace : (jobs : List J) → ¬ (IsScriptTrace number note config jobs ran_another)
  ran_another_is_no_trace jobs trace = grind arith

-- ---- lists

-- promise: check_lists: what was taken in another order does not pass
-- a poller that took 3 before 2 doesn't pass where 2 was put in before 3
another_order_does_not_pass : ¬ (IsFirstFailure (2 ∷ 3 ∷ []) (2 ∷ 3 ∷ []) [] ((3 ∷ 2 ∷ []) ∷ []) [] [] None)
another_order_does_not_pass passes = let in_order = passes.1 0 [] (omega arith) in absurd cc

-- promise: check_lists: a kept reference that was not put in does not pass
-- no report of 5, which the second mutator kept
a_missing_report_does_not_pass : ¬ (IsFirstFailure (2 ∷ 3 ∷ []) (2 ∷ 3 ∷ []) [] ((2 ∷ 3 ∷ []) ∷ [])
    ((2 ∷ []) ∷ (5 ∷ []) ∷ []) [] None)
a_missing_report_does_not_pass passes = let reported = passes.4 5 refl in absurd cc
