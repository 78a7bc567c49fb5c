-- What a cycle scanned, read off the rows alone (this project's profile).
use Rattle.std.specs.Prelude.{ℕ, List, [], ◌∷◌, ◌++◌}
use Rattle.ref_base.specs.declared.plain_step.PlainStep.TheVariants as plain
use Rattle.ref_base.specs.declared.step.Step.{Step}
use Rattle.ref_base.specs.declared.step.Step.TheVariants as steps
use Rattle.ref_base.specs.declared.reply.Reply.{Reply}
use Rattle.ref_base.specs.declared.reply.Reply.TheVariants as replies
use Rattle.ref_base.specs.declared.row.Row.{Row}

-- what the cycle scanned after one more row, where it scanned these before: a cycle that begins has scanned nothing
abbrev pub scanned_with : List ℕ → Step → Reply → List ℕ
scanned_with ns (steps.Plain (plain.Begin now how)) (replies.Cycle n) = []
scanned_with ns (steps.Plain (plain.Scan k)) (replies.Scanned n) = ns ++ n ∷ []
scanned_with ns step reply = ns

abbrev pub scanned_from : List ℕ → List Row → List ℕ
scanned_from ns [] = ns
scanned_from ns (row ∷ rows) = scanned_from (scanned_with ns row.step row.reply) rows

-- the objects that the rows since the last begin scanned, in order
abbrev pub scanned_in_cycle : List Row → List ℕ
scanned_in_cycle rows = scanned_from [] rows
