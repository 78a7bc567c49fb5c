use Rattle.ref_script.proofs.Common.{◌-◌, ◌≡◌, length, words_of}
use Rattle.ref_script.proofs.BatchWords.{HasItems}
use Rattle.ref_script.proofs.replies.batch.Given as goal

abbrev pub invariant-loop-rest : goal.invariant-loop-rest
invariant-loop-rest l =
    (l.outs.before ≡ l.before) × HasItems l.before (words_of l.line) l.outs.done l.position (words_of l.rest)

abbrev pub decreases-loop-rest : goal.decreases-loop-rest
decreases-loop-rest l = 32 - length l.outs.done
