use Rattle.std.proofs.Common.{◌≡◌, length}
use Rattle.ref_log.specs.LogRows.{no_padding}
use Rattle.ref_script.specs.Lines.{words_of}
use Rattle.ref_log.proofs.rows.has_no_padding.Given as goal

abbrev pub invariant-loop-word : goal.invariant-loop-word
invariant-loop-word l = no_padding (words_of l.rest) ≡ no_padding (words_of l.line)

abbrev pub decreases-loop-word : goal.decreases-loop-word
decreases-loop-word l = length (words_of l.rest)
