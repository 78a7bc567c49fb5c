use Rattle.ref_script.proofs.Common.{length}
use Rattle.ref_script.proofs.LineLemmas.{Skips}
use Rattle.ref_script.proofs.told.Lines.next_told.Given as goal

abbrev pub invariant-loop-content : goal.invariant-loop-content
invariant-loop-content l = Skips l.initial.self l.self

abbrev pub decreases-loop-content : goal.decreases-loop-content
decreases-loop-content l = length l.self.lines
