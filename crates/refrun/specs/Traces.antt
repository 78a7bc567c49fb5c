-- What a script's run prints, and what each answer of a run says.
use Rattle.std.specs.Prelude.{◌≡◌, ℕ, ◌+◌, List, [], ◌∷◌, ◌++◌, map, Option, Result, decimal}
use Rattle.ref_base.specs.LegalTraces.{IsLegal}
use Rattle.ref_base.specs.declared.config.Config.{Config}
use Rattle.ref_base.specs.declared.span_rule.SpanRule.{SpanRule}
use Rattle.ref_world.specs.Cores.{Core}
use Rattle.ref_script.specs.Answers.{AnswersText}
use Rattle.refrun.specs.ScriptRuns.{StageJobs, IsScriptTrace}
use Rattle.refrun.specs.ScriptStanding.{IsScriptRowOf, RunsScriptFrom}
use Rattle.ref_script.specs.ScriptSteps.{script_row_text}
use Rattle.ref_script.specs.Scripts.{IsScript}
use Rattle.ref_script.specs.TextFaults.{script_fault}
use Rattle.ref_script.specs.TraceTexts.{trace_text}
use Rattle.ref_script.specs.WorldRows.{world_rows}
use Rattle.ref_text.specs.declared.fault.TextFault.{TextFault}
use Rattle.ref_script.specs.declared.script_step.ScriptReply.{ScriptReply}
use Rattle.ref_script.specs.declared.script_step.ScriptRow.{ScriptRow}
use Rattle.ref_script.specs.declared.script_step.ScriptStep.{ScriptStep}

abbrev pub script_steps_of : List ScriptRow → List ScriptStep
script_steps_of rows = map (λ row. row.step) rows

module _ {J : Type 0} (number note : J → ℕ) where
  -- the step is answered by a row, and behind the text stands its line, which has number k
  abbrev pub TellsRow : ℕ → Core → StageJobs J → ScriptStep → List ℕ → List ℕ → Core → StageJobs J → Type 0
  TellsRow k old before step text more new after =
      (reply : ScriptReply) × IsScriptRowOf number note old before step reply new after
      × (more ≡ text ++ (decimal k ++ 32 ∷ (script_row_text (record { step = step; reply = reply }) ++ 10 ∷ [])))

  -- the text of rows of these steps, which are a run from each state that the one world stands for, and these jobs, to
  -- one for which the other stands
  abbrev pub TellsRun : SpanRule → Core → StageJobs J → List ScriptStep → List ℕ → Core → StageJobs J → Type 0
  TellsRun rule old before steps text new after =
      (rows : List ScriptRow) × (script_steps_of rows ≡ steps) × RunsScriptFrom number note old before rows new after
      × (text ≡ trace_text rule rows)

  -- the text of a trace of these steps with these jobs
  abbrev pub TellsTrace : Config → List J → List ScriptStep → List ℕ → Type 0
  TellsTrace config jobs steps text =
      (rows : List ScriptRow) × (script_steps_of rows ≡ steps) × IsScriptTrace number note config jobs rows
      × (text ≡ trace_text config.rule rows)

  -- What is printed is the text of a trace of the steps of the script that the text spells, with one reply each. Its
  -- rows of the world, with a job that was run read as the clear of its reference, are a legal trace; its rows of jobs
  -- are those of one table, in which jobs of these stand.
  pub record PrintsTrace (jobs : List J) (text printed : List ℕ) : Type 0 where
    pub config : Config
    pub rows : List ScriptRow
    pub script : IsScript text config (script_steps_of rows)
    pub legal : IsLegal config (world_rows rows)
    pub with_jobs : IsScriptTrace number note config jobs rows
    pub is_text : printed ≡ trace_text config.rule rows

  -- What an answer says of the text that was read, and of what had gone out before the run and has now.
  abbrev pub AnswersRun : {T : Type 0} → List J → List ℕ → Option (List ℕ) → Option (List ℕ) → Result T TextFault
      → Type 0
  AnswersRun jobs text old new result = AnswersText (PrintsTrace jobs text) (script_fault text) old new result
