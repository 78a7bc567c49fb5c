use Rattle.ref_text.proofs.Common.{◌≡◌, length}
use Rattle.ref_text.proofs.WriteLemmas.{HasWritten}
use Rattle.ref_text.proofs.sink.ToWriterTextSink.write_text.Given as goal

abbrev pub invariant-loop-rest : goal.invariant-loop-rest
invariant-loop-rest g l = HasWritten (g.W.Write.contents l.fn.self.writer)
    (g.W.Write.contents l.self.writer) l.text l.rest × (l.self.has_failed ≡ l.fn.self.has_failed)

abbrev pub decreases-loop-rest : goal.decreases-loop-rest
decreases-loop-rest g l = length l.rest
