-- The rows that a world and a cleaner's table give, from each state of the abstract collector that the world stands
-- for.
use Rattle.std.specs.Prelude.{List, ℕ}
use Rattle.ref_base.specs.Collectors.{State}
use Rattle.ref_queue.specs.CleanTables.{Registry}
use Rattle.ref_world.specs.Cores.{Core}
use Rattle.ref_world.specs.Standing.{Stands}
use Rattle.refrun.specs.ScriptRuns.{StageJobs, IsScriptRow, IsScriptRun}
use Rattle.ref_script.specs.declared.script_step.ScriptReply.{ScriptReply}
use Rattle.ref_script.specs.declared.script_step.ScriptRow.{ScriptRow}
use Rattle.ref_script.specs.declared.script_step.ScriptStep.{ScriptStep}

abbrev pub jobs : {J : Type 0} → Registry (Unit {0}) J → List J → StageJobs J
jobs table left = record { table = table; left = left }

module _ {J : Type 0} (number note : J → ℕ) where
  -- the step, answered so, is one row
  abbrev pub IsScriptRowOf : Core → StageJobs J → ScriptStep → ScriptReply → Core → StageJobs J → Type 0
  IsScriptRowOf old before step reply new after =
      (a : State) → Stands old a → (b : State) × IsScriptRow number note a before step reply b after × Stands new b

  -- the rows are a run
  abbrev pub RunsScriptFrom : Core → StageJobs J → List ScriptRow → Core → StageJobs J → Type 0
  RunsScriptFrom old before rows new after =
      (a : State) → Stands old a → (b : State) × IsScriptRun number note a before rows b after × Stands new b
