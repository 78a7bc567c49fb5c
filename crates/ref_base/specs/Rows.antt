-- The text of a row (this project's profile).
use Rattle.std.specs.Prelude.{ℕ, List, ◌++◌, codes}
use Rattle.ref_base.specs.Texts.{text_of}
use Rattle.ref_base.specs.Steps.{step_words}
use Rattle.ref_base.specs.Replies.{reply_text}
use Rattle.ref_base.specs.declared.row.Row.{Row}

-- the text of a row: the step, a colon with a space on each side, and the reply
abbrev pub row_text : Row → List ℕ
row_text row = text_of (step_words row.step) ++ codes " : " ++ reply_text row.reply
