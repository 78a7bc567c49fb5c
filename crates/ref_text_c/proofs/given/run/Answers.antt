use Rattle.ref_script.specs.TextFaults.{script_fault}
use Rattle.refrun.specs.JobViews.{answering_jobs, plain_note, plain_number}
use Rattle.refrun.specs.Traces.{PrintsTrace}
use Rattle.ref_text_c.proofs.TextLemmas.{tells_text}
use Rattle.ref_text_c.proofs.given.run.Goals as goal

pub returns : goal.returns
returns c =
    let script = c.args.script.now in
    rw (c.hand.ensures.answer, c.hand.ensures.buffer, c.as_slice.ensures.value)
    (tells_text (PrintsTrace plain_number plain_note answering_jobs script) (script_fault script)
    c.trace_into-done.result c.trace_into-done.new.trace.bytes.items c.args.buffer.now
    (rw c.new-trace.ensures.bytes at c.trace_into-done.ensures))
