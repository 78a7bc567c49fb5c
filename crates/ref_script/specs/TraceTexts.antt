-- The text of a trace, by its rows (this project's profile).
use Rattle.std.specs.Prelude.{ℕ, ◌+◌, List, [], ◌∷◌, ◌++◌, decimal}
use Rattle.ref_base.specs.declared.span_rule.SpanRule.{SpanRule}
use Rattle.ref_script.specs.ScriptSteps.{script_row_text}
use Rattle.ref_script.specs.Versions.{trace_title}
use Rattle.ref_script.specs.declared.script_step.ScriptRow.{ScriptRow}

-- a line for each row, the first of which has number k
abbrev pub numbered : ℕ → List ScriptRow → List ℕ
numbered k [] = []
numbered k (row ∷ rows) = decimal k ++ 32 ∷ script_row_text row ++ 10 ∷ numbered (k + 1) rows

-- the text of a trace: its header, which is of the script's version, then its rows, numbered from 1
abbrev pub trace_text : SpanRule → List ScriptRow → List ℕ
trace_text rule rows = trace_title rule ++ 10 ∷ numbered 1 rows
