use Rattle.std.proofs.Common.{[], Some}
use Rattle.ref_script.specs.Listings.{AnswersStrengths, PrintsStrengths}
use Rattle.ref_script.specs.TextFaults.{graph_fault}
use Rattle.ref_text_c.proofs.TextLemmas.{answers_of_text, tells_text}
use Rattle.ref_text_c.proofs.given.list_strengths.Goals as goal

pub returns : goal.returns
returns c =
    let graph = c.args.graph.now in
    let listing = c.strength_text-done.new.writer.bytes.items in
    let done = c.strength_text-done.result in
    rw (c.hand.ensures.answer, c.hand.ensures.buffer, c.as_slice.ensures.value)
    (tells_text (PrintsStrengths graph) (graph_fault graph) done listing c.args.buffer.now
    (answers_of_text (λ text. AnswersStrengths text (Some []) (Some listing) done) _ _ c.new-reader.ensures.bytes
    (rw c.new-listing.ensures.bytes at c.strength_text-done.ensures.answer)))
