use Rattle.ref_script.proofs.Common.{◌≡◌, drop, says_nothing}
use Rattle.ref_script.specs.Lines.{words_of}
use Rattle.ref_script.proofs.told.says_nothing.Given as goal

abbrev pub invariant-loop-byte : goal.invariant-loop-byte
invariant-loop-byte l = says_nothing (words_of (drop l.byte-index l.content)) ≡ says_nothing (words_of l.content)
