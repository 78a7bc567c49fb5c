use Rattle.ref_script.proofs.Common.{◌≡◌, length, words_of}
use Rattle.ref_script.specs.ReplyReading.{first_position}
use Rattle.ref_script.proofs.replies.first_position.Given as goal

abbrev pub invariant-loop-word : goal.invariant-loop-word
invariant-loop-word l = first_position (words_of l.rest) ≡ first_position (words_of l.line)

abbrev pub decreases-loop-word : goal.decreases-loop-word
decreases-loop-word l = length (words_of l.rest)
