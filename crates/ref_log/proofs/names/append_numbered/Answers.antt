use Rattle.std.proofs.Common.{sym, ◌∙◌}
use Rattle.ref_log.proofs.NameLemmas.{number_written, one_more_written, word_written}
use Rattle.ref_log.proofs.names.append_numbered.Goals as goal

pub loop-word-preserved-in_ok-append-in-Some-name_of :
    goal.loop-word-preserved-in_ok-append-in-Some-name_of
loop-word-preserved-in_ok-append-in-Some-name_of g c =
    let written =
    number_written c.args.table.now c.in-Some.word.now c.in-Some-name_of.name.items c.as_bytes.result.now
    c.number_of.result c.in-Some-name_of.ensures.0 c.in-Some-name_of.ensures.1 c.number_of.ensures c.number_of.type_inv
    (c.as_bytes.ensures.value ∙ c.format.ensures.text) in
    one_more_written c.args.table.now c.in-Some.word.now _ _ _ _ _ c.in-Some.ensures
    (sym c.is_queue_word.ensures ∙ c.if-is_queue_word.false) c.in_ok-append-in-Some-name_of.ensures written
    ∙ c.loop-word.invariant

pub loop-word-preserved : goal.loop-word-preserved
loop-word-preserved g c =
    let written =
    word_written c.args.table.now c.loop-word.rest.now c.in-Some.word.now _ c.in-None.ensures c.in-Some.ensures in
    one_more_written c.args.table.now c.in-Some.word.now _ _ _ _ _ c.in-Some.ensures
    (sym c.is_queue_word.ensures ∙ c.if-is_queue_word.false) c.in_ok-append-in-None.ensures written
    ∙ c.loop-word.invariant
