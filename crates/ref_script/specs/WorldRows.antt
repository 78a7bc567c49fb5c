-- Which rows of a script are rows of a collector (this project's profile).
use Rattle.std.specs.Prelude.{List, [], ◌∷◌, ◌++◌}
use Rattle.ref_base.specs.declared.plain_step.PlainStep.TheVariants.{Clear}
use Rattle.ref_base.specs.declared.reply.Reply.TheVariants.{Done}
use Rattle.ref_base.specs.declared.row.Row.{Row}
use Rattle.ref_base.specs.declared.step.Step.TheVariants.{Plain}
use Rattle.ref_script.specs.declared.script_step.ScriptReply.{ScriptReply}
use Rattle.ref_script.specs.declared.script_step.ScriptReply.TheVariants as replies
use Rattle.ref_script.specs.declared.script_step.ScriptRow.{ScriptRow}
use Rattle.ref_script.specs.declared.script_step.ScriptStep.{ScriptStep}
use Rattle.ref_script.specs.declared.script_step.ScriptStep.TheVariants as steps

-- a row of the world is itself; a job that was run cleared its reference; any other row of jobs is none of the world's
abbrev pub world_row : ScriptStep → ScriptReply → List Row
world_row (steps.World step) (replies.World reply) = record { step = step; reply = reply } ∷ []
world_row (steps.Run m s) (replies.Ran ran) = record { step = Plain (Clear m s); reply = Done } ∷ []
world_row step reply = []

abbrev pub world_rows : List ScriptRow → List Row
world_rows [] = []
world_rows (row ∷ rows) = world_row row.step row.reply ++ world_rows rows
