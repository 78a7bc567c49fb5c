use Rattle.std.proofs.Common.{◌≡◌, ◌++◌, length}
use Rattle.ref_log.specs.Names.{number_words}
use Rattle.ref_script.specs.Lines.{words_of}
use Rattle.ref_log.proofs.names.append_numbered.Given as goal

abbrev pub invariant-loop-word : goal.invariant-loop-word
invariant-loop-word g l =
    words_of l.line.items ++ number_words l.table (words_of l.rest)
    ≡ words_of l.fn.line.items ++ number_words l.table (words_of l.words)

abbrev pub decreases-loop-word : goal.decreases-loop-word
decreases-loop-word g l = length (words_of l.rest)
