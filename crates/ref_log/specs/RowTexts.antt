-- What the text of a row tells: all of the row, but for how many notices were put in before a batch of which none was
-- added (this project's profile).
use Rattle.std.specs.Prelude.{◌≡◌, false}
use Rattle.std.specs.List.{list_any}
use Rattle.ref_base.specs.Outs.{Outs, is_added}
use Rattle.ref_base.specs.declared.actor.Actor.{Actor}
use Rattle.ref_base.specs.declared.reply.Reply.TheVariants as replies
use Rattle.ref_base.specs.declared.row.Row.{Row}
use Rattle.ref_base.specs.declared.step.Step.TheVariants.{Puts}
use Rattle.ref_judge.specs.Judged.{Judged, put_for}
use Rattle.ref_script.specs.SameReplies.{IsSameReply}
use Rattle.ref_script.specs.declared.script_step.ScriptReply.TheVariants as said
use Rattle.ref_script.specs.declared.script_step.ScriptRow.{ScriptRow}
use Rattle.ref_script.specs.declared.script_step.ScriptStep.TheVariants as script

-- a row of the world as a row of a script
abbrev pub in_script : Row → ScriptRow
in_script row = record { step = script.World row.step; reply = said.World row.reply }

-- the rows are the same, but for what such batches don't tell
pub record IsSameRow (one other : ScriptRow) : Type 0 where
  pub step : one.step ≡ other.step
  pub reply : IsSameReply one.reply other.reply

-- in front of a batch of which none was added as many notices were put in as a judge was told
abbrev pub IsPlacedRow : Judged → Row → Type 0
IsPlacedRow j row =
    (who : Actor) (outs : Outs) → row.step ≡ Puts who → row.reply ≡ replies.Outs outs
    → list_any is_added outs.done ≡ false → outs.before ≡ put_for j who
