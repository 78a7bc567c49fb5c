use Rattle.ref_script.proofs.Common.{◌+◌, ◌-◌, vec_len, most_bytes}
use Rattle.ref_script.proofs.ReadLemmas.{IsReading}
use Rattle.ref_script.proofs.reading.text_of.Given as goal

abbrev pub invariant-loop-reader : goal.invariant-loop-reader
invariant-loop-reader g l =
    IsReading (g.R.TextSource.remaining l.fn.reader) (g.R.TextSource.remaining l.reader)
    (g.R.TextSource.has_failed l.fn.reader) (g.R.TextSource.has_failed l.reader) l.text.items (vec_len l.chunk)

abbrev pub decreases-loop-reader : goal.decreases-loop-reader
decreases-loop-reader g l = most_bytes + 1 - vec_len l.text
