use Rattle.ref_log.proofs.Common.{◌-◌, length, most_in_line}
use Rattle.ref_log.proofs.StreamLemmas.{IsReading}
use Rattle.ref_log.proofs.stream.LineStream.advance.Given as goal

abbrev pub invariant-loop-self : goal.invariant-loop-self
invariant-loop-self g l =
    IsReading l.fn.self l.self (g.R.TextSource.remaining l.fn.reader) (g.R.TextSource.remaining l.reader)
    (g.R.TextSource.has_failed l.fn.reader) (g.R.TextSource.has_failed l.reader)

abbrev pub decreases-loop-self : goal.decreases-loop-self
decreases-loop-self g l = most_in_line - length l.self.line
