use Rattle.ref_text.proofs.Common.{arith, err_from_is_err_and}
use Rattle.ref_text.proofs.WriteLemmas.{written_more, written_prefix, written_then}
use Rattle.ref_text.proofs.sink.ToWriterTextSink.write_text.Goals as goal

pub returns-in_err-count-clause-err : goal.returns-in_err-count-clause-err
returns-in_err-count-clause-err g c =
    let p = err_from_is_err_and c.from_residual.result c.from_residual.ensures.1 in
    rw p.1 (written_then _ (g.W.Write.contents c.loop-rest.self.writer) _ c.args.text.now c.loop-rest.rest.now
    c.loop-rest.invariant.0 c.in_err-count.ensures.err)

pub loop-rest-preserved : goal.loop-rest-preserved
loop-rest-preserved g c = grind (arith, written_more)

pub returns-then-is_err-clause-err : goal.returns-then-is_err-clause-err
returns-then-is_err-clause-err g c = search written_prefix
