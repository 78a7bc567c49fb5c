use Rattle.ref_script.proofs.Common.{length, words_of}
use Rattle.ref_script.proofs.ReplyNumbers.{IsInFront}
use Rattle.ref_script.proofs.replies.numbers_in_front.Given as goal

abbrev pub invariant-loop-word : goal.invariant-loop-word
invariant-loop-word l = IsInFront (words_of l.line) l.numbers (words_of l.rest)

abbrev pub decreases-loop-word : goal.decreases-loop-word
decreases-loop-word l = length (words_of l.rest)
