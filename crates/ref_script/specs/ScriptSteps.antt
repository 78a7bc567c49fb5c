-- How each step of a script and each reply is spelled (this project's profile).
use Rattle.std.specs.Prelude.{ℕ, List, [], ◌∷◌, ◌++◌, codes}
use Rattle.ref_base.specs.Replies.{reply_text}
use Rattle.ref_base.specs.Steps.{step_words}
use Rattle.ref_base.specs.Texts.{Word, Letters, Long, mutator, slot, number, text_of}
use Rattle.ref_script.specs.declared.script_step.ScriptReply.{ScriptReply}
use Rattle.ref_script.specs.declared.script_step.ScriptReply.TheVariants as replies
use Rattle.ref_script.specs.declared.script_step.ScriptRow.{ScriptRow}
use Rattle.ref_script.specs.declared.script_step.ScriptStep.{ScriptStep}
use Rattle.ref_script.specs.declared.script_step.ScriptStep.TheVariants as steps

-- the words of a step: of the world's as the world's, and else of a step of jobs
abbrev pub script_step_words : ScriptStep → List Word
script_step_words (steps.World step) = step_words step
script_step_words (steps.Job m s n) = mutator m ∷ Letters (codes "job") ∷ slot s ∷ number n ∷ []
script_step_words (steps.Run m s) = mutator m ∷ Letters (codes "run") ∷ slot s ∷ []

-- the text of a reply: of the world's as the world's, and else of one to a step of jobs
abbrev pub script_reply_text : ScriptReply → List ℕ
script_reply_text (replies.World reply) = reply_text reply
script_reply_text replies.Registered = codes "ok"
script_reply_text replies.Used = codes "used"
script_reply_text (replies.Ran ran) = text_of (Letters (codes "ran") ∷ Long ran.number ∷ Long ran.answer ∷ [])
script_reply_text replies.Gone = codes "gone"

-- the text of a row: the step, a colon with a space on each side, and the reply
abbrev pub script_row_text : ScriptRow → List ℕ
script_row_text row = text_of (script_step_words row.step) ++ codes " : " ++ script_reply_text row.reply
