use Rattle.std.proofs.Common.{Some}
use Rattle.refrun.specs.JobViews.{plain_note, plain_number}
use Rattle.refrun.specs.Traces.{AnswersRun}
use Rattle.ref_text_c.proofs.TextLemmas.{answers_of_text}
use Rattle.ref_text_c.proofs.given.trace_into.Goals as goal

pub returns : goal.returns
returns c =
    rw c.in_ok-jobs.ensures at
    (answers_of_text
    (λ text.
    AnswersRun plain_number plain_note c.in_ok-jobs.jobs.items text (Some c.args.trace.now.bytes.items)
    (Some c.run_script_with.new.writer.bytes.items) c.run_script_with.result)
    _ _ c.new-reader.ensures.bytes c.run_script_with.ensures.answer)
