use Rattle.std.proofs.Common.{◌≡◌, length}
use Rattle.ref_judge.specs.ProfiledRows.{strict}
use Rattle.ref_log.specs.LogHeads.{with_words}
use Rattle.ref_script.specs.Lines.{words_of}
use Rattle.ref_log.proofs.heads.with_words.Given as goal

abbrev pub invariant-loop-word : goal.invariant-loop-word
invariant-loop-word l = with_words l.profile (words_of l.rest) ≡ with_words strict (words_of l.line)

abbrev pub decreases-loop-word : goal.decreases-loop-word
decreases-loop-word l = length (words_of l.rest)
