-- What the drawing of a script prints.
use Rattle.std.specs.Prelude.{◌≡◌, ℕ, List, length, Option, Result, Ok, Err}
use Rattle.std.specs.Io.KnownBytes.{Keeps, Appends}
use Rattle.ref_base.specs.declared.config.Config.{Config}
use Rattle.ref_text.specs.Streams.{AppendsPrefix}
use Rattle.ref_text.specs.declared.fault.TextFault.{TextFault}
use Rattle.ref_text.specs.declared.fault.TextFault.TheVariants.{Line, TooLong, CannotRead, CannotWrite, NoMemory}
use Rattle.ref_script.specs.Scripts.{IsScript}
use Rattle.ref_script.specs.declared.script_step.ScriptStep.{ScriptStep}

-- the text is a script of so many steps
pub record IsDrawnScript (count : ℕ) (text : List ℕ) : Type 0 where
  pub config : Config
  pub steps : List ScriptStep
  pub script : IsScript text config steps
  pub so_many : length steps ≡ count

-- What an answer says of what had gone out before the call and has now.
abbrev pub AnswersDrawn : {T : Type 0} → ℕ → Option (List ℕ) → Option (List ℕ) → Result T TextFault → Type 0
-- a script of so many steps has gone out
AnswersDrawn count old new (Ok _) = (text : List ℕ) × IsDrawnScript count text × Appends old new text
-- a prefix of one has
AnswersDrawn count old new (Err CannotWrite) = (text : List ℕ) × IsDrawnScript count text × AppendsPrefix old new text
-- nothing has
AnswersDrawn count old new (Err (Line k fault)) = Keeps old new
AnswersDrawn count old new (Err TooLong) = Keeps old new
AnswersDrawn count old new (Err CannotRead) = Keeps old new
AnswersDrawn count old new (Err NoMemory) = Keeps old new
