use Rattle.ref_text.proofs.Common.{◌≡◌, ◌-◌, Keeps}
use Rattle.ref_text.proofs.source.FromReaderTextSource.read.Given as goal

abbrev pub invariant-loop-self : goal.invariant-loop-self
invariant-loop-self g l = Keeps (g.R.Read.remaining l.fn.self.reader) (g.R.Read.remaining l.self.reader) ×
    (l.self.has_failed ≡ l.fn.self.has_failed)

abbrev pub decreases-loop-self : goal.decreases-loop-self
decreases-loop-self g l = 1000 - l.self.interruptions
