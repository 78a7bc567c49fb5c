use Rattle.std.proofs.Common.{◌≡◌, ℕ, List, refl, subst}
use Rattle.ref_base.specs.declared.reply.Reply.{Reply}
use Rattle.ref_base.specs.declared.step.Step.{Step}
use Rattle.ref_log.specs.LogRows.{SpellsRow}
use Rattle.ref_log.specs.RowTexts.{in_script}
use Rattle.ref_script.specs.declared.script_step.ScriptReply.{ScriptReply}
use Rattle.ref_script.specs.declared.script_step.ScriptReply.TheVariants as replies
use Rattle.ref_script.specs.declared.script_step.ScriptRow.{ScriptRow}
use Rattle.ref_script.specs.declared.script_step.ScriptStep.{ScriptStep}
use Rattle.ref_script.specs.declared.script_step.ScriptStep.TheVariants as steps
use Rattle.ref_log.proofs.check.placed.Goals as goal

by_parts : (words : List (List ℕ)) (row : ScriptRow) (step : Step) (reply : Reply) → row.step ≡ steps.World step
    → row.reply ≡ replies.World reply → SpellsRow words row
    → SpellsRow words (in_script (record { step = step; reply = reply }))
by_parts words row step reply step_is reply_is spelt =
    subst (λ (s : ScriptStep). SpellsRow words (record { step = s; reply = replies.World reply })) step_is
    (subst (λ (r : ScriptReply). SpellsRow words (record { step = row.step; reply = r })) reply_is spelt)

pub returns-in-World-reply-clause-text : goal.returns-in-World-reply-clause-text
returns-in-World-reply-clause-text g c words spelt = (
  in_script c.placed_row.result,
  c.placed_row.ensures.text words
      (by_parts words c.args.row c.in-World.step c.in-World-reply.reply c.in-World.is c.in-World-reply.is spelt),
  refl,
)
